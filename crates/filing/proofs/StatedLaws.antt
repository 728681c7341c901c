-- What a list of statements makes of a cell: nothing of another's, its own narrower, and one after the other.
use mathlib.Core.Path.{◌≡◌, refl, ap}
use mathlib.Core.Bool.{Bool, true, false, cond, ◌&&◌, and-false}
use mathlib.Core.List.{List, [], ◌∷◌}
use Prim.Native.Nat.{ℕ}
use lib.Dec.{eqb}
use borrow.Author.Tests.{eq-eqb, ne_eqb}
use Rattle.lists.proofs.Splits.{split_eq}
use Rattle.relation.specs.Sets.{Within, intersect}
use Rattle.relation.proofs.Within.{within_refl, within_trans, within_left}
use Rattle.filing.specs.Said.{Statement}
use Rattle.filing.specs.Stated.{stated_cell}

module _ (start : ℕ → ℕ → ℕ) where
  -- before any statement
  pub stated-none : (i j : ℕ) → stated_cell start [] i j ≡ start i j
  unfolding stated_cell
  stated-none i j = refl

  -- after one more, by whether it is about the cell
  pub stated_more : (s : Statement) (l : List Statement) (i j : ℕ)
      → stated_cell start (s ∷ l) i j
      ≡ cond (eqb s.from i && eqb s.to j) (intersect (stated_cell start l i j) s.set) (stated_cell start l i j)
  unfolding stated_cell
  stated_more s l i j = refl

  -- a statement narrows its own cell
  pub stated-here : (s : Statement) (l : List Statement)
      → stated_cell start (s ∷ l) s.from s.to ≡ intersect (stated_cell start l s.from s.to) s.set
  unfolding stated_cell
  stated-here s l = rw (eq-eqb s.from s.from refl, eq-eqb s.to s.to refl)

  -- and no other
  pub stated_elsewhere : (s : Statement) (l : List Statement) (i j : ℕ) → (s.from ≡ i → s.to ≡ j → ⊥)
      → stated_cell start (s ∷ l) i j ≡ stated_cell start l i j
  unfolding stated_cell
  stated_elsewhere s l i j d =
      split_eq s.from i
      (λ e.
      rw (ne_eqb s.to j (d e))
      (ap (λ (b : Bool). cond b (intersect (stated_cell start l i j) s.set) (stated_cell start l i j)) (and-false (eqb s.from i))))
      (λ e. rw (ne_eqb s.from i e))

  narrowed-within : (b : Bool) (x s : ℕ) → Within (cond b (intersect x s) x) x
  narrowed-within true x s = within_left x s
  narrowed-within false x s = within_refl x

  pub stated_step : (s : Statement) (l : List Statement) (i j : ℕ) → Within (stated_cell start (s ∷ l) i j) (stated_cell start l i j)
  unfolding stated_cell
  stated_step s l i j = narrowed-within (eqb s.from i && eqb s.to j) (stated_cell start l i j) s.set

  -- no statement adds to a cell
  pub stated-within : (l : List Statement) (i j : ℕ) → Within (stated_cell start l i j) (start i j)
  unfolding stated_cell
  stated-within [] i j = within_refl (start i j)
  stated-within (s ∷ l) i j =
      within_trans (stated_step s l i j) (stated-within l i j)
