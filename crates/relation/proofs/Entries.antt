-- The laws of the table of compositions and of the converse, by one test over the 64 entries, which antt computes.
use Prim.Native.Nat.{ℕ, ◌<◌}
use mathlib.Core.Path.{◌≡◌}
use mathlib.Core.Bool.{Bool}
use mathlib.Core.List.{List, [], ◌∷◌}
use lib.Dec.{T, eqb, eqb→eq, ltb, ltb→lt}
use Rattle.relation.specs.Relations.{equal}
use Rattle.relation.specs.Sets.{has, only, universal, union_of, over}
use Rattle.relation.specs.Converse.{flip, converse}
use Rattle.relation.specs.Composition.{rows, table}
use Rattle.relation.proofs.Tests.{all, all_at, every, each}

-- what holds of the relations p and q and their composition
pub record Entry (p q : ℕ) : Type 0 where
  pub byte : table p q < 256
  pub reversed : converse (table p q) ≡ table (flip q) (flip p)
  pub from-equal : table equal q ≡ only q
  pub to-equal : table p equal ≡ only p
  pub loops : T (has (table p (flip p)) equal)
  pub row-universal : over universal (λ q. table p q) ≡ universal
  pub column-universal : over universal (λ p. table p q) ≡ universal
  pub twice : flip (flip p) ≡ p
  pub below : flip p < 8

tests : ℕ → ℕ → List Bool
tests p q =
    ltb (table p q) 256
    ∷ eqb (converse (table p q)) (table (flip q) (flip p))
    ∷ eqb (table equal q) (only q)
    ∷ eqb (table p equal) (only p)
    ∷ has (table p (flip p)) equal
    ∷ eqb (over universal (λ q. table p q)) universal
    ∷ eqb (over universal (λ p. table p q)) universal
    ∷ eqb (flip (flip p)) p
    ∷ ltb (flip p) 8
    ∷ []

tested : T (all 8 (λ p. all 8 (λ q. every (tests p q))))
unfolding all every tests table rows flip converse over union_of has
tested = tt

pub entry : (p q : ℕ) → p < 8 → q < 8 → Entry p q
unfolding tests
entry p q hp hq =
    let t = each (tests p q) (all_at 8 (λ q. every (tests p q)) (all_at 8 (λ p. all 8 (λ q. every (tests p q))) tested p hp) q hq) in
    record {
      byte = ltb→lt _ _ t.0;
      reversed = eqb→eq _ _ t.1.0;
      from-equal = eqb→eq _ _ t.1.1.0;
      to-equal = eqb→eq _ _ t.1.1.1.0;
      loops = t.1.1.1.1.0;
      row-universal = eqb→eq _ _ t.1.1.1.1.1.0;
      column-universal = eqb→eq _ _ t.1.1.1.1.1.1.0;
      twice = eqb→eq _ _ t.1.1.1.1.1.1.1.0;
      below = ltb→lt _ _ t.1.1.1.1.1.1.1.1.0;
    }
