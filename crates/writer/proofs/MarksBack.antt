-- The marks that a written scene gives: each of its statements takes the mark of its own cell, and no other does.
use mathlib.Core.Path.{◌≡◌, refl, sym, ap, ◌∙◌}
use mathlib.Core.List.{List}
use Prim.Native.Nat.{ℕ, zero, suc, ◌+◌, ◌*◌, ◌<◌}
use native.Mathlib.Numerals.{add-one}
use native.Mathlib.Omega.{arith}
use borrow.Author.Tests.{eq-eqb, ne_eqb}
use lib.ListN.{length, get_or}
use Rattle.lists.proofs.Splits.{split_lt, split_eq}
use Rattle.relation.specs.Sets.{universal}
use Rattle.matrix.specs.Cells.{cell, grid}
use Rattle.matrix.proofs.CellLaws.{place_lt, grid-same}
use Rattle.filing.specs.Said.{Statement}
use Rattle.filing.specs.Stated.{stated_cell}
use Rattle.filing.specs.Marks.{mark_of}
use Rattle.filing.proofs.MarkLaws.{mark_stays, mark_taken, start_unmarked}
use Rattle.scene.specs.Reads.{starting_cell}
use Rattle.writer.specs.Scene.{stated_count}
use Rattle.writer.specs.RoundTrip.{written_marks}
use Rattle.writer.proofs.SceneLaws.{counted_more}
use Rattle.writer.proofs.ReadBack.{statement_at, statements_of, statements_as_before, statements_and_one}
use Rattle.writer.proofs.CellsBack.{not_narrowed, unstated, stated}

-- there are as many statements as cells that are not 255
length-statements : (n : ℕ) (cells : List ℕ) (p : ℕ) → length (statements_of p n cells) ≡ stated_count p cells
unfolding statements_of stated_count
length-statements n cells zero = refl
length-statements n cells (suc p) =
    split_eq (get_or cells p 0) universal
    (λ e. rw (eq-eqb (get_or cells p 0) universal e) (omega (arith, length-statements n cells p)))
    (λ e. rw (ne_eqb (get_or cells p 0) universal e) (omega (arith, length-statements n cells p)))

module _ (n : ℕ) (cells : List ℕ) (bytes : (p : ℕ) → get_or cells p 0 < 256) (i j : ℕ) (column-of : j < n) where
  abbrev own_place : ℕ
  own_place = i * n + j

  -- another cell's statement leaves the mark
  kept : (p : ℕ) → (p ≡ own_place → ⊥) → mark_of starting_cell (statements_of (suc p) n cells) i j ≡ mark_of starting_cell (statements_of p n cells) i j
  kept p h =
      split_eq (get_or cells p 0) universal
      (λ u. rw (statements_as_before n p cells u))
      (λ u. rw (statements_and_one n p cells u)
      (mark_stays starting_cell i j (statement_at n p cells) (statements_of p n cells)
      (rw (statements_and_one n p cells u) at (not_narrowed n cells bytes i j column-of p h))))

  -- a cell of 255 has none
  none-taken : cell n cells i j ≡ universal → own_place < n * n → mark_of starting_cell (statements_of (n * n) n cells) i j ≡ 0
  none-taken e l =
      start_unmarked starting_cell i j (statements_of (n * n) n cells) (stated n cells bytes i j column-of (n * n) l ∙ e)

  -- its own takes it
  taken : (cell n cells i j ≡ universal → ⊥) → (p : ℕ) → own_place < p
      → mark_of starting_cell (statements_of p n cells) i j ≡ stated_count (suc own_place) cells
  taken d zero l = absurd (omega arith)
  taken d (suc p) l =
      split_lt own_place p
      (λ u. kept p (λ e. omega arith) ∙ taken d p u)
      (λ u. let e : p ≡ own_place = omega arith in rw e (own d))
    where
      own : (cell n cells i j ≡ universal → ⊥) → mark_of starting_cell (statements_of (suc own_place) n cells) i j ≡ stated_count (suc own_place) cells
      own d =
          let before : List Statement = statements_of own_place n cells in
          let changed : stated_cell starting_cell (statements_of (suc own_place) n cells) i j ≡ stated_cell starting_cell before i j → ⊥ =
          λ q. d (sym (stated n cells bytes i j column-of (suc own_place) (omega arith)) ∙ q ∙ unstated n cells bytes i j column-of own_place (omega arith)) in
          rw (statements_and_one n own_place cells d)
          (mark_taken starting_cell i j (statement_at n own_place cells) before (rw (statements_and_one n own_place cells d) at changed)
          ∙ ap suc (length-statements n cells own_place)
          ∙ sym (rw add-one at (counted_more cells own_place d) ∙ add-one (stated_count own_place cells)))

pub marks-back : (n : ℕ) (cells : List ℕ) → ((p : ℕ) → get_or cells p 0 < 256)
    → grid n (mark_of starting_cell (statements_of (n * n) n cells)) ≡ written_marks n cells
marks-back n cells bytes =
    grid-same n (mark_of starting_cell (statements_of (n * n) n cells)) _
    (λ i j hi hj.
    split_eq (cell n cells i j) universal
    (λ e. none-taken n cells bytes i j hj e (place_lt n i j hi hj) ∙ rw (eq-eqb (cell n cells i j) universal e))
    (λ d. taken n cells bytes i j hj d (n * n) (place_lt n i j hi hj) ∙ rw (ne_eqb (cell n cells i j) universal d)))
