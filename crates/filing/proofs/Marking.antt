-- The mark of a cell in rows of 64: only a cell that is there has a relation to lose.
use Rattle.std.proofs.Common.{◌≡◌, sym, ap, ◌∙◌, true, not, List, ℕ, ◌≤◌, ◌<◌}
use lib.Dec.{eqb}
use borrow.Author.Tests.{eqb-false, lt-ltb, le-ltb, not-true}
use Rattle.lists.proofs.Splits.{split_lt}
use Rattle.relation.specs.Sets.{empty, intersect}
use Rattle.matrix.specs.Square.{most_regions}
use Rattle.matrix.specs.Cells.{cell_or_empty}
use Rattle.filing.specs.Said.{Statement}

module _ (cells : List ℕ) (s : Statement) (here left : ℕ)
    (at : here ≡ cell_or_empty most_regions cells s.from s.to) (cut : left ≡ intersect here s.set) where
  nothing_lost : here ≡ empty → left ≡ here
  nothing_lost e = cut ∙ ap (λ (x : ℕ). intersect x s.set) e ∙ sym e

  row_past : most_regions ≤ s.from → cell_or_empty most_regions cells s.from s.to ≡ empty
  unfolding cell_or_empty
  row_past h = rw (le-ltb s.from most_regions h)

  column_past : s.from < most_regions → most_regions ≤ s.to → cell_or_empty most_regions cells s.from s.to ≡ empty
  unfolding cell_or_empty
  column_past l h = rw (lt-ltb s.from most_regions l, le-ltb s.to most_regions h)

  pub mark_inside : not (eqb left here) ≡ true → (s.from < most_regions) × (s.to < most_regions)
  mark_inside removes =
      let lost : left ≡ here → ⊥ = eqb-false left here (not-true (eqb left here) removes) in
      split_lt s.from most_regions
      (λ l. split_lt s.to most_regions (λ k. (l, k)) (λ k. absurd (lost (nothing_lost (at ∙ column_past l k)))))
      (λ l. absurd (lost (nothing_lost (at ∙ row_past l))))
