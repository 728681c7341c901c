-- The words gathered from the relations below n, as the loop of `narrow` makes them.
use Prim.Native.Nat.{ℕ, suc, ◌+◌, ◌*◌, ◌<◌}
use mathlib.Core.Path.{◌≡◌, refl, sym, ap, ap₂, ◌∙◌}
use mathlib.Core.List.{List}
use native.Mathlib.Numerals.{add-one}
use lib.ListN.{get_or, replicate}
use Rattle.relation.specs.Sets.{intersect, unite, union_of}
use Rattle.lists.specs.Tabled.{tabled}
use Rattle.lanes.specs.Lists.{list_of}
use Rattle.lanes.proofs.Lists.{list_at, list_same}
use Rattle.round.specs.Inner.{narrowed}

abbrev brought : List ℕ → List ℕ → ℕ → ℕ → ℕ
brought a onward r p = intersect (get_or a p 0) (get_or onward (8 * p + r) 0)

unfoldable pub gathered : List ℕ → List ℕ → ℕ → List ℕ
gathered a onward n = list_of 8 (λ r. union_of n (brought a onward r))

pub gathered_none : (a onward : List ℕ) → replicate {A = ℕ} 8 0 ≡ gathered a onward 0
unfolding gathered tabled union_of
gathered_none a onward = refl

pub gathered_more : (a onward one part : List ℕ) (n : ℕ) → one ≡ gathered a onward n
    → ((r : ℕ) → r < 8 → get_or part r 0 ≡ get_or onward (8 * n + r) 0)
    → list_of 8 (λ r. unite (get_or one r 0) (intersect (get_or a n 0) (get_or part r 0))) ≡ gathered a onward (n + 1)
unfolding gathered union_of
gathered_more a onward one part n e h =
    list_same 8 _ (λ r. union_of (suc n) (brought a onward r)) (λ r l.
    ap₂ unite (ap (λ (w : List ℕ). get_or w r 0) e ∙ list_at 8 (λ r. union_of n (brought a onward r)) r l)
    (ap (intersect (get_or a n 0)) (h r l)))
    ∙ ap (gathered a onward) (sym (add-one n))

pub gathered_all : (all a onward one : List ℕ) (n : ℕ) → n ≡ 8 → one ≡ gathered a onward n
    → list_of 8 (λ r. intersect (get_or all r 0) (get_or one r 0)) ≡ narrowed all a onward
unfolding gathered narrowed
gathered_all all a onward one n q e =
    list_same 8 _ (λ r. intersect (get_or all r 0) (union_of 8 (brought a onward r))) (λ r l.
    ap (intersect (get_or all r 0))
    (ap (λ (w : List ℕ). get_or w r 0) (e ∙ ap (gathered a onward) q) ∙ list_at 8 (λ r. union_of 8 (brought a onward r)) r l))
