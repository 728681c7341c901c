-- Which area holds the matrix as the rounds go on, and what stands in both, by the area that holds it.
use mathlib.Core.Path.{◌≡◌, refl, sym, ap, ◌∙◌}
use mathlib.Core.Bool.{Bool, true, false, not, cond}
use Prim.Native.Nat.{ℕ, zero, suc, ◌+◌, ◌%◌}
use native.Mathlib.Nat.{add-zero}
use native.Mathlib.Omega.{arith}
use borrow.Author.Tests.{eq-eqb, ne_eqb}
use lib.Dec.{eqb}
use Rattle.lists.proofs.Splits.{split_eq}
use Rattle.network.specs.declared.Area.{Area}
use Rattle.network.specs.declared.Area.TheVariants.{First, Second}
use Rattle.network.specs.Areas.{other, holds}

pub other-other : (area : Area) → other (other area) ≡ area
other-other First = refl
other-other Second = refl

abbrev even : ℕ → Bool
even count = eqb (count % 2) 0

even_next : (count : ℕ) → even (suc count) ≡ not (even count)
even_next count =
    split_eq (count % 2) 0
    (λ e. rw (eq-eqb (count % 2) 0 e, ne_eqb (suc count % 2) 0 (λ f. omega arith)))
    (λ d. let e : suc count % 2 ≡ 0 = omega arith in rw (ne_eqb (count % 2) 0 d, eq-eqb (suc count % 2) 0 e))

-- one round more changes the area
pub holds_next : (from : Area) (count : ℕ) → holds from (suc count) ≡ holds (other from) count
holds_next from count = ap (λ (b : Bool). cond b from (other from)) (even_next count) ∙ go (even count)
  where
    go : (b : Bool) → cond (not b) from (other from) ≡ cond b (other from) (other (other from))
    go true = refl
    go false = sym (other-other from)

pub holds-other : (from : Area) (count : ℕ) → holds (other from) count ≡ other (holds from count)
holds-other from count = go (even count)
  where
    go : (b : Bool) → cond b (other from) (other (other from)) ≡ other (cond b from (other from))
    go true = refl
    go false = refl

-- rounds after rounds
pub holds_more : (from : Area) (count more : ℕ) → holds from (count + more) ≡ holds (holds from count) more
holds_more from count zero = ap (holds from) (add-zero count)
holds_more from count (suc more) =
    let one_more : count + suc more ≡ suc (count + more) = omega arith in
    ap (holds from) one_more
    ∙ holds_next from (count + more)
    ∙ holds_more (other from) count more
    ∙ ap (λ (a : Area). holds a more) (holds-other from count)
    ∙ sym (holds_next (holds from count) more)
