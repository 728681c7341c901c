-- What a search answers: its place, or none. What the library's `position` is by the least place.
use mathlib.Core.Path.{◌≡◌, refl, ap}
use mathlib.Core.Bool.{Bool, true, false, cond}
use mathlib.Core.List.{List}
use Prim.Native.Nat.{ℕ, ◌≤◌, ◌<◌}
use lib.Dec.{ltb}
use lib.ListN.{length, get_or}
use borrow.Author.Tests.{ltb-true, ltb-false}
use Rattle.std.proofs.Common.{Some, None}
use Rattle.std.specs.List.{position, position_or_len}
use Rattle.std.proofs.lemmas.List.Sums.{prefix_len-le-length, fails_before_first, passes_at_first}
use Rattle.lists.specs.Least.{least, found_below}
use Rattle.lists.proofs.LeastLaws.{least-is, least_one}

-- a place that was found is one of the n
pub found_some : (n p : ℕ) {q : ℕ} → Some q ≡ found_below n p → (q ≡ p) × (p < n)
found_some n p {q} e = go (ltb p n) refl e
  where
    go : (b : Bool) → ltb p n ≡ b → Some q ≡ cond b (Some p) None → (q ≡ p) × (p < n)
    go true t f = (cc, ltb-true p n t)
    go false t f = absurd (cc)

-- where none was found, the place is past them
pub found_none : (n p : ℕ) → None ≡ found_below n p → n ≤ p
found_none n p e = go (ltb p n) refl e
  where
    go : (b : Bool) → ltb p n ≡ b → None ≡ cond b (Some p) None → n ≤ p
    go true t f = absurd (cc)
    go false t f = ltb-false p n t

-- the first entry of a list that passes a test
pub position-least : {X : Type 0} (test : X → Bool) (xs : List X) (d : X)
    → position test xs ≡ found_below (length xs) (least (length xs) (λ k. test (get_or xs k d)))
position-least test xs d =
    ap (found_below (length xs))
    (least_one (length xs) (λ k. test (get_or xs k d)) (position_or_len test xs) (least (length xs) (λ k. test (get_or xs k d)))
    (record {
      within = prefix_len-le-length _ xs;
      before = λ k l. fails_before_first test xs k d l;
      found = λ l. passes_at_first test xs d l;
    })
    (least-is (length xs) (λ k. test (get_or xs k d))))
