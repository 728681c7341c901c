-- The areas while something is said: they hold the identifiers declared so far, with 0 behind them, and the cells stated so far with
-- their marks, in rows of 64. How that begins, what one more region or statement makes of it, and how it ends.
use mathlib.Core.Path.{◌≡◌, refl, sym, ap, ◌∙◌}
use mathlib.Core.List.{List, [], ◌∷◌, ◌++◌, append_assoc}
use Prim.Native.Nat.{ℕ, suc, ◌+◌, ◌-◌, ◌*◌, ◌≤◌, ◌<◌}
use native.Mathlib.Omega.{arith}
use lib.ListN.{length, set, take, replicate, length-append, length-set, length-replicate, get_or-replicate}
use borrow.Author.Tests.{eq-eqb, ne_eqb}
use lib.Seq.{set_at, get_or-set_same, get_or-set_other}
use Rattle.lists.proofs.Splits.{split_eq}
use Rattle.region.specs.declared.Place.{Place}
use Rattle.relation.specs.Sets.{intersect}
use Rattle.matrix.specs.Square.{most_regions}
use Rattle.matrix.specs.Cells.{cell, grid, cell_or_empty}
use Rattle.matrix.proofs.CellLaws.{place_lt, length-grid, cell-grid, ext_cell, grid-same, cell-there, narrowed-there}
use Rattle.filing.specs.Said.{Statement, Said, regions, silent, declared, statement, stated}
use Rattle.filing.specs.Stated.{stated_cell}
use Rattle.filing.specs.Marks.{mark_of}
use Rattle.filing.specs.Areas.{Areas, holding, Lent, lent_identifiers, lent_cells, started, padded, filled, filed_in, marked_in, packed}
use Rattle.filing.specs.Inner.{Rows}
use Rattle.filing.proofs.Padded.{length-padded, padded_front}
use Rattle.filing.proofs.Packing.{packed-grid}
use Rattle.filing.proofs.MarkLaws.{mark_stays, mark_taken}
use Rattle.filing.proofs.StatedLaws.{stated-none, stated-here, stated_elsewhere}

pub record Held (start : ℕ → ℕ → ℕ) (said : Said) (areas : Areas) : Type 0 where
  pub few : regions said ≤ most_regions
  pub identifiers_are : areas.identifiers ≡ padded lent_identifiers said.identifiers
  pub cells_are : areas.cells ≡ grid most_regions (stated_cell start said.statements)
  pub marks_are : areas.marks ≡ grid most_regions (mark_of start said.statements)

-- ---- the identifiers

-- one identifier more takes the next place
one_more : (size : ℕ) (l : List ℕ) (name : ℕ) → length l < size → set (padded size l) (length l) name ≡ padded size (l ++ (name ∷ []))
one_more size l name h =
    let left : size - length l ≡ suc (size - length (l ++ (name ∷ []))) = omega (arith, length-append l (name ∷ [])) in
    rw left (set_at l 0 (replicate (size - length (l ++ (name ∷ []))) 0) name (length l) refl ∙ sym (append_assoc l (name ∷ []) _))

-- ---- the cells

module _ (start : ℕ → ℕ → ℕ) where
  -- one statement more, in rows of 64
  one_stated : (s : Statement) (l : List Statement) → s.from < most_regions → s.to < most_regions
      → filed_in (grid most_regions (stated_cell start l)) s ≡ grid most_regions (stated_cell start (s ∷ l))
  one_stated s l hf ht =
      let before : List ℕ = grid most_regions (stated_cell start l) in
      let at : ℕ = s.from * most_regions + s.to in
      let new : ℕ = intersect (cell most_regions before s.from s.to) s.set in
      let in_list : at < length before = rw length-grid (place_lt most_regions s.from s.to hf ht) in
      narrowed-there before s.set (omega arith) hf ht
      ∙ ext_cell most_regions (set before at new) (grid most_regions (stated_cell start (s ∷ l)))
      (length-set before at new ∙ length-grid most_regions (stated_cell start l))
      (length-grid most_regions (stated_cell start (s ∷ l)))
      (λ i j hi hj.
      split_eq (i * most_regions + j) at
      (λ e.
      let row_is : i ≡ s.from = omega arith in
      let column-is : j ≡ s.to = omega arith in
      rw (row_is, column-is)
      (get_or-set_same before at new 0 in_list
      ∙ ap (λ (x : ℕ). intersect x s.set) (cell-grid most_regions (stated_cell start l) s.from s.to hf ht)
      ∙ sym (cell-grid most_regions (stated_cell start (s ∷ l)) s.from s.to hf ht ∙ stated-here start s l)))
      (λ e.
      get_or-set_other before at (i * most_regions + j) new 0 e ∙ cell-grid most_regions (stated_cell start l) i j hi hj
      ∙ sym (cell-grid most_regions (stated_cell start (s ∷ l)) i j hi hj ∙ stated_elsewhere start s l i j (λ a b. e (omega arith)))))

  -- a statement that removes nothing from its own cell changes none
  nothing_new : (s : Statement) (l : List Statement) → intersect (stated_cell start l s.from s.to) s.set ≡ stated_cell start l s.from s.to
      → (i j : ℕ) → stated_cell start (s ∷ l) i j ≡ stated_cell start l i j
  nothing_new s l e i j =
      split_eq s.from i
      (λ a.
      split_eq s.to j (λ b. rw (← a, ← b) (stated-here start s l ∙ e)) (λ b. stated_elsewhere start s l i j (λ _ q. b q)))
      (λ a. stated_elsewhere start s l i j (λ q _. a q))

  -- and its mark
  one_marked : (s : Statement) (l : List Statement) → s.from < most_regions → s.to < most_regions
      → marked_in (grid most_regions (stated_cell start l)) (grid most_regions (mark_of start l)) s (suc (length l))
      ≡ grid most_regions (mark_of start (s ∷ l))
  one_marked s l hf ht =
      let cells : List ℕ = grid most_regions (stated_cell start l) in
      let marks : List ℕ = grid most_regions (mark_of start l) in
      let at : ℕ = s.from * most_regions + s.to in
      let here : ℕ = stated_cell start l s.from s.to in
      let read : cell_or_empty most_regions cells s.from s.to ≡ here =
      cell-there cells (omega arith) hf ht ∙ cell-grid most_regions (stated_cell start l) s.from s.to hf ht in
      split_eq (intersect here s.set) here
      (λ e.
      rw (read, eq-eqb (intersect here s.set) here e)
      (grid-same most_regions (mark_of start l) (mark_of start (s ∷ l))
      (λ i j hi hj. sym (mark_stays start i j s l (nothing_new s l e i j)))))
      (λ d.
      rw (read, ne_eqb (intersect here s.set) here d)
      (ext_cell most_regions (set marks at (suc (length l))) (grid most_regions (mark_of start (s ∷ l)))
      (length-set marks at (suc (length l)) ∙ length-grid most_regions (mark_of start l))
      (length-grid most_regions (mark_of start (s ∷ l)))
      (λ i j hi hj.
      split_eq (i * most_regions + j) at
      (λ e.
      let row_is : i ≡ s.from = omega arith in
      let column-is : j ≡ s.to = omega arith in
      rw (row_is, column-is)
      (get_or-set_same marks at (suc (length l)) 0 (rw length-grid (place_lt most_regions s.from s.to hf ht))
      ∙ sym (cell-grid most_regions (mark_of start (s ∷ l)) s.from s.to hf ht
      ∙ mark_taken start s.from s.to s l (λ q. d (sym (stated-here start s l) ∙ q)))))
      (λ e.
      get_or-set_other marks at (i * most_regions + j) (suc (length l)) 0 e ∙ cell-grid most_regions (mark_of start l) i j hi hj
      ∙ sym (cell-grid most_regions (mark_of start (s ∷ l)) i j hi hj
      ∙ mark_stays start i j s l (stated_elsewhere start s l i j (λ a b. e (omega arith))))))))

-- before any statement every cell is the same
none-stated : (x : ℕ) → replicate lent_cells x ≡ grid most_regions (stated_cell (λ i j. x) [])
none-stated x =
    let cells : ℕ → ℕ → ℕ = stated_cell (λ i j. x) [] in
    ext_cell most_regions (replicate lent_cells x) (grid most_regions cells) (length-replicate {A = ℕ} lent_cells x)
    (length-grid most_regions cells)
    (λ i j hi hj.
    get_or-replicate {A = ℕ} lent_cells (i * most_regions + j) x 0 (place_lt most_regions i j hi hj)
    ∙ sym (cell-grid most_regions cells i j hi hj ∙ stated-none (λ i j. x) i j))

-- and no cell has a mark
none-marked : (start : ℕ → ℕ → ℕ) → replicate lent_cells 0 ≡ grid most_regions (mark_of start [])
unfolding mark_of
none-marked start =
    ext_cell most_regions (replicate lent_cells 0) (grid most_regions (λ i j. 0)) (length-replicate {A = ℕ} lent_cells 0)
    (length-grid most_regions (λ i j. 0))
    (λ i j hi hj.
    get_or-replicate {A = ℕ} lent_cells (i * most_regions + j) 0 0 (place_lt most_regions i j hi hj)
    ∙ sym (cell-grid most_regions (λ i j. 0) i j hi hj))

-- ---- all of them

-- nothing is said yet
pub held_begins : {areas after : Areas} (x : ℕ) → Lent areas → after ≡ started x areas → Held (λ i j. x) silent after
held_begins {areas} x lent e =
    rw e
    (record {
      few = omega arith;
      identifiers_are = rw lent.identifiers-long;
      cells_are = rw lent.cells-long (none-stated x);
      marks_are = rw lent.marks-long (none-marked (λ i j. x));
    })

module _ {start : ℕ → ℕ → ℕ} {said : Said} {identifiers cells marks : List ℕ} (h : Held start said (holding identifiers cells marks)) where
  -- areas that hold it have the right lengths
  pub held_lent : Lent (holding identifiers cells marks)
  held_lent =
      record {
        identifiers-long = rw h.identifiers_are (length-padded lent_identifiers said.identifiers h.few);
        cells-long = rw h.cells_are (length-grid most_regions (stated_cell start said.statements));
        marks-long = rw h.marks_are (length-grid most_regions (mark_of start said.statements));
      }

  -- the entries that count are those of what was said
  pub held_front : take (regions said) identifiers ≡ said.identifiers
  held_front = padded_front lent_identifiers said.identifiers refl h.identifiers_are

  -- one more region
  pub held_declared : (name : ℕ) → regions said < most_regions
      → Held start (declared said name) (holding (set identifiers (regions said) name) cells marks)
  held_declared name room =
      record {
        few = omega (arith, length-append said.identifiers (name ∷ []));
        identifiers_are = rw h.identifiers_are (one_more lent_identifiers said.identifiers name room);
        cells_are = h.cells_are;
        marks_are = h.marks_are;
      }

  -- one more statement, with its number
  pub held_stated : (a b : Place) (set number : ℕ) → a.0 < most_regions → b.0 < most_regions → number ≡ suc (length said.statements)
      → Held start (stated said a b set)
      (holding identifiers (filed_in cells (statement a b set)) (marked_in cells marks (statement a b set) number))
  held_stated a b set number ha hb numbered =
      record {
        few = h.few;
        identifiers_are = h.identifiers_are;
        cells_are = rw h.cells_are (one_stated start (statement a b set) said.statements ha hb);
        marks_are = rw (h.cells_are, h.marks_are, numbered) (one_marked start (statement a b set) said.statements ha hb);
      }

  -- all is said
  pub held_ends : (before : Areas) → Lent before
      → holding identifiers (packed 0 (regions said) cells) (packed 0 (regions said) marks) ≡ filled start said before
  held_ends before lent =
      let rows : Rows cells (regions said) = record { long = held_lent.cells-long; few = h.few } in
      let mark_rows : Rows marks (regions said) = record { long = held_lent.marks-long; few = h.few } in
      rw (
        lent.identifiers-long,
        lent.cells-long,
        lent.marks-long,
        packed-grid (regions said) cells rows (stated_cell start said.statements) h.cells_are,
        packed-grid (regions said) marks mark_rows (mark_of start said.statements) h.marks_are,
        h.identifiers_are,
      )
