-- The wiring of one relation: by fields or by a list it is the same, and past the eight relations nothing is wired.
use Prim.Native.Nat.{ℕ, zero, suc, ◌≤◌}
use mathlib.Core.Path.{◌≡◌, refl, sym, ap, ap₂, ◌∙◌}
use mathlib.Core.Bool.{Bool, cond}
use mathlib.Core.List.{List, []}
use lib.ListN.{length, get_or, replicate, get_or-eq_default}
use Rattle.relation.specs.Sets.{has, empty, unite, union_of}
use Rattle.relation.specs.Composition.{rows, table}
use Rattle.lists.specs.Tabled.{tabled}
use Rattle.lanes.specs.Lists.{list_of}
use Rattle.lanes.specs.Words.{wired}
use Rattle.lanes.proofs.Lists.{list_length, list_same}
use Rattle.lanes.proofs.Unions.{empty-has}

pub wired-length : (p : ℕ) (w : List ℕ) → length (wired p w) ≡ 8
unfolding wired
wired-length p w = list_length 8 _

-- no relation has a place above 7
no_entry : (p q : ℕ) → 8 ≤ p → table p q ≡ empty
unfolding table rows
no_entry p q h = ap (λ (l : List ℕ). get_or l q 0) (get_or-eq_default rows [] h)

union_none : (n : ℕ) (f : ℕ → ℕ) → ((q : ℕ) → f q ≡ empty) → union_of n f ≡ empty
unfolding union_of
union_none zero f e = refl
union_none (suc n) f e = ap₂ unite (union_none n f e) (e n)

nothing : list_of 8 (λ r. empty) ≡ replicate 8 empty
unfolding tabled
nothing = refl

pub wired-none : (p : ℕ) (w : List ℕ) → 8 ≤ p → replicate 8 empty ≡ wired p w
unfolding wired
wired-none p w h =
    sym (list_same 8 _ (λ r. empty) (λ r l.
    union_none 8 _ (λ q. ap (λ (s : ℕ). cond (has s r) (get_or w q 0) empty) (no_entry p q h)
    ∙ ap (λ (b : Bool). cond b (get_or w q 0) empty) (empty-has r)))
    ∙ nothing)
