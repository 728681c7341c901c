-- Entries in rows of 64 packed into rows of n: where each comes from, and that none moves towards the end.
use Rattle.std.proofs.Common.{◌≡◌, refl, sym, ◌∙◌, arith, List, ℕ, ◌+◌, ◌*◌, ◌≤◌, ◌<◌, length, get_or, set}
use Rattle.std.proofs.lemmas.List.{ext_get_or, get_or_default, get_or-set_same, get_or-set_other}
use Rattle.std.proofs.lemmas.List.FromFn.{length-map-range_with_len, get_or-map-range_with_len}
use lib.ListN.{length-set}
use native.Mathlib.Nat.{le_trans, mul-le-mul, mul-le-mul_left}
use borrow.Author.Tests.{eq-eqb, ne_eqb, le-leb, lt-leb}
use Rattle.lists.proofs.Splits.{split_lt, split_eq}
use Rattle.matrix.specs.Square.{most_regions}
use Rattle.matrix.specs.Cells.{row, column, grid}
use Rattle.matrix.proofs.CellLaws.{length-grid, at_place, row_lt, column_lt, place-back, cell-grid}
use Rattle.filing.specs.Areas.{lent_cells, padded, padded_with, in_rows, packed}
use Rattle.filing.specs.Inner.{Rows}
use Rattle.filing.proofs.Padded.{length-padded_with, padded_with_in, padded_with_past}

-- n rows of n have no more cells than 64 rows of 64
pub few-cells : (n : ℕ) → n ≤ most_regions → n * n ≤ lent_cells
few-cells n h = mul-le-mul h h

-- where a matrix has a cell it has a region
pub positive : (n at : ℕ) → at < n * n → 0 < n
positive n at h = omega (arith, row_lt n at h)

-- the cell at a place has its row and its column among 64
pub record AmongRows (n at : ℕ) : Type 0 where
  pub row-few : row n at < most_regions
  pub column-few : column n at < most_regions

pub among-rows : (n at : ℕ) → n ≤ most_regions → at < n * n → AmongRows n at
among-rows n at h l = record { row-few = le_trans (row_lt n at l) h; column-few = le_trans (column_lt n at l) h }

-- the cell at a place in rows of n comes from that place or a later one
pub source_le : (n at : ℕ) → n ≤ most_regions → at ≤ row n at * most_regions + column n at
source_le n at h = omega (arith, place-back n at, mul-le-mul_left (row n at) h)

module _ {A : Type 0} (padding : A) (n : ℕ) (entries : List A) where
  length-in_rows : length (in_rows padding n entries) ≡ n * n
  length-in_rows = length-map-range_with_len (λ p. get_or entries (row n p * most_regions + column n p) padding) 0 (n * n)

  in_rows_at : (at : ℕ) → at < n * n → get_or (in_rows padding n entries) at padding ≡ get_or entries (row n at * most_regions + column n at) padding
  in_rows_at at h =
      get_or-map-range_with_len (λ p. get_or entries (row n p * most_regions + column n p) padding) 0 (n * n) at at padding h (omega arith)

-- entries that are not such rows are left
module _ {A : Type 0} (padding : A) (n : ℕ) (entries : List A) where
  pub other-cells : (length entries ≡ lent_cells → ⊥) → entries ≡ packed padding n entries
  unfolding packed
  other-cells d = rw (ne_eqb (length entries) lent_cells d) refl

  pub too_many : length entries ≡ lent_cells → most_regions < n → entries ≡ packed padding n entries
  unfolding packed
  too_many e h = rw (eq-eqb (length entries) lent_cells e, lt-leb n most_regions h) refl

module _ {A : Type 0} (padding : A) (n : ℕ) (entries : List A) (rows : Rows entries n) where
  -- rows of 64 become rows of n
  packed-rows : packed padding n entries ≡ padded_with padding (length entries) (in_rows padding n entries)
  unfolding packed
  packed-rows = rw (eq-eqb (length entries) lent_cells rows.long, le-leb n most_regions rows.few) refl

  pub length-packed : length (packed padding n entries) ≡ length entries
  length-packed =
      rw packed-rows
      (length-padded_with padding (length entries) (in_rows padding n entries)
      (omega (arith, length-in_rows padding n entries, few-cells n rows.few, rows.long)))

  pub packed_in : (at : ℕ) → at < n * n
      → get_or (packed padding n entries) at padding ≡ get_or entries (row n at * most_regions + column n at) padding
  packed_in at h =
      rw packed-rows
      (padded_with_in padding (length entries) (in_rows padding n entries) at (omega (arith, length-in_rows padding n entries))
      ∙ in_rows_at padding n entries at h)

  -- so an entry that was read there belongs there
  pub packed_read : (at : ℕ) (x : A) → at < n * n → x ≡ get_or entries (row n at * most_regions + column n at) x
      → x ≡ get_or (packed padding n entries) at padding
  packed_read at x h e =
      let among = among-rows n at rows.few h in
      let there : row n at * most_regions + column n at < length entries = omega (arith, among.row-few, among.column-few, rows.long) in
      e ∙ get_or_default entries (row n at * most_regions + column n at) x padding there ∙ sym (packed_in at h)

  pub packed_past : (at : ℕ) → n * n ≤ at → get_or (packed padding n entries) at padding ≡ padding
  packed_past at h =
      rw packed-rows
      (padded_with_past padding (length entries) (in_rows padding n entries) at (omega (arith, length-in_rows padding n entries)))

-- so the cells of 64 regions become those of n
pub packed-grid : (n : ℕ) (cells : List ℕ) → Rows cells n → (f : ℕ → ℕ → ℕ) → cells ≡ grid most_regions f
    → packed 0 n cells ≡ padded lent_cells (grid n f)
packed-grid n cells rows f e =
    let same : in_rows 0 n (grid most_regions f) ≡ grid n f =
    ext_get_or 0 (in_rows 0 n (grid most_regions f)) (grid n f) (length-in_rows 0 n (grid most_regions f) ∙ sym (length-grid n f))
    (λ at l.
    let h : at < n * n = omega (arith, length-in_rows 0 n (grid most_regions f)) in
    let among = among-rows n at rows.few h in
    in_rows_at 0 n (grid most_regions f) at h ∙ cell-grid most_regions f (row n at) (column n at) among.row-few among.column-few
    ∙ sym (at_place n f at h)) in
    rw (packed-rows 0 n cells rows, rows.long, e, same) refl

-- a loop that packs entries from the front: those before the place are packed, the others are as they were
pub record Packed {A : Type 0} (padding : A) (n : ℕ) (before entries : List A) (at : ℕ) : Type 0 where
  pub long : length entries ≡ length before
  pub so_far : (k : ℕ) → k < at → get_or entries k padding ≡ get_or (packed padding n before) k padding
  pub left : (k : ℕ) → at ≤ k → get_or entries k padding ≡ get_or before k padding

-- it reads none that it has written
module _ {A : Type 0} (padding : A) (n : ℕ) (before entries : List A) (at : ℕ) (rows : Rows before n)
    (w : Packed padding n before entries at) where
  pub packing_rows : Rows entries n
  packing_rows = record { long = w.long ∙ rows.long; few = rows.few }

  not_written : get_or (packed padding n entries) at padding ≡ get_or (packed padding n before) at padding
  not_written =
      split_lt at (n * n)
      (λ l.
      packed_in padding n entries packing_rows at l
      ∙ w.left (row n at * most_regions + column n at) (source_le n at rows.few)
      ∙ sym (packed_in padding n before rows at l))
      (λ l. packed_past padding n entries packing_rows at l ∙ sym (packed_past padding n before rows at l))

  pub packing_more : (x : A) → at < length entries → x ≡ get_or (packed padding n entries) at padding
      → Packed padding n before (set entries at x) (at + 1)
  packing_more x h e =
      record {
        long = length-set entries at x ∙ w.long;
        so_far = λ k l.
            split_eq k at
            (λ s. rw s (get_or-set_same entries at x padding h ∙ e ∙ not_written))
            (λ d. get_or-set_other entries at k x padding d ∙ w.so_far k (omega arith));
        left = λ k l. get_or-set_other entries at k x padding (omega arith) ∙ w.left k (omega arith);
      }

  pub packing_ends : length entries ≤ at → entries ≡ packed padding n before
  packing_ends h =
      ext_get_or padding entries (packed padding n before) (w.long ∙ sym (length-packed padding n before rows))
      (λ k l. w.so_far k (omega arith))
