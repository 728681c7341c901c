-- Between cells and planes: a row of cells is a block, and a block a row of cells; the loops that cross row by row.
use Prim.Native.Nat.{ℕ, ◌+◌, ◌*◌, ◌-◌, ◌/◌, ◌<◌, ◌≤◌}
use mathlib.Core.Path.{◌≡◌, sym, ap, ap₂, ◌∙◌}
use mathlib.Core.Bool.{Bool, cond, ◌&&◌}
use mathlib.Core.List.{List, ◌++◌}
use native.Mathlib.Nat.{mul-le-mul_right, zero-mul}
use native.Mathlib.Omega.{arith}
use borrow.Author.Tests.{lt-ltb, le-ltb}
use lib.Dec.{ltb}
use borrow.Rule.Slice.PartMut.{put_mid}
use lib.ListN.{length, get_or, take, drop, length-take, length-drop, length-append, get_or-eq_default}
use lib.Seq.{get_or-take, get_or-drop, drop-drop, take-append_seam, drop-append_seam}
use Rattle.lists.proofs.Splits.{split_lt}
use Rattle.relation.specs.Sets.{has, universal}
use Rattle.matrix.specs.Cells.{cell, column}
use Rattle.lists.specs.Laid.{laid}
use Rattle.lists.proofs.LaidLaws.{laid_none}
use Rattle.matrix.proofs.CellLaws.{place_lt, cell-grid, length-grid}
use Rattle.lanes.specs.Lists.{list_of}
use Rattle.lanes.specs.Words.{set_at}
use Rattle.lanes.proofs.Lists.{list_at, list_length, list_same}
use Rattle.lanes.proofs.Sets.{mask_same}
use Rattle.rows.specs.Rows.{row_words, row_cells, row_after}
use Rattle.rows.proofs.Placing.{read_inside, row-served}
use Rattle.planes.specs.Planes.{block_of, lane, lane_cell, matrix_planes, planes_matrix}
use Rattle.planes.specs.Calls.{given}
use Rattle.planes.specs.Inner.{lanes_of}
use Rattle.planes.proofs.Laying.{part_laid, put_back}
use Rattle.planes.proofs.Blocks.{set_block, block_planes}

-- ---- the cells of a row

pub record RowFits (n i : ℕ) : Type 0 where
  pub row : i * n + n ≤ n * n
  pub all : n * n ≤ 4096

pub row_fits : (n i : ℕ) → i < n → n ≤ 64 → RowFits n i
row_fits n i h few = record { row = omega (arith, mul-le-mul_right n h); all = omega (arith, mul-le-mul_right n few) }

module _ (n : ℕ) (m : List ℕ) (few : n ≤ 64) (size : length m ≡ n * n) (i : ℕ) (hi : i < n) where
  fits : RowFits n i
  fits = row_fits n i hi few

  lane-cell : (j : ℕ) → j < 64 → get_or (take n (drop (i * n) m)) j universal ≡ lane_cell 64 n m (64 * i + j)
  unfolding lane_cell
  lane-cell j h =
      let at : (64 * i + j) / 64 ≡ i = omega arith in
      let in_row : column 64 (64 * i + j) ≡ j = omega arith in
      split_lt j n
      (λ l.
      get_or-take n (drop (i * n) m) j universal l ∙ get_or-drop (i * n) m j universal
      ∙ read_inside m (i * n + j) universal 0 (omega (arith, place_lt n i j hi l))
      ∙ sym (ap₂ (λ (a b : Bool). cond (a && b) (cell n m i j) universal) (lt-ltb i n hi) (lt-ltb j n l)))
      (λ l.
      get_or-eq_default (take n (drop (i * n) m)) universal (omega (arith, length-take n (drop (i * n) m)))
      ∙ sym (ap₂ (λ (a b : Bool). cond (a && b) (cell n m i j) universal) (lt-ltb i n hi) (le-ltb j n l)))
      ∙ sym (ap₂ (λ (a b : ℕ). cond (ltb a n && ltb b n) (cell n m a b) universal) at in_row)

  pub row_block : row_words (take n (drop (i * n) m)) ≡ block_of (matrix_planes n m) i
  unfolding row_words lanes_of
  row_block =
      list_same 8 _ _ (λ r l. mask_same 64 _ _ (λ x h. ap (λ (s : ℕ). has s r) (lane-cell x h)))
      ∙ sym (block_planes n (lane_cell 64 n m) i hi)

-- ---- the rows that are left once i of them are taken

-- the next row, and those behind it
pub record NextRow (n i : ℕ) (cells row rest : List ℕ) : Type 0 where
  pub here : i < n
  pub is : row ≡ take n (drop (i * n) cells)
  pub behind : rest ≡ drop ((i + 1) * n) cells

module _ (n i : ℕ) (cells left : List ℕ) (some : 1 ≤ n) (size : length cells ≡ n * n) (within : i ≤ n) (e : left ≡ drop (i * n) cells) where
  all_left : length left ≡ n * n - i * n
  all_left = ap length e ∙ length-drop (i * n) cells ∙ ap (λ (k : ℕ). k - i * n) size

  pub next_row : (row rest : List ℕ) → left ≡ row ++ rest → length row ≡ n → NextRow n i cells row rest
  next_row row rest q long =
      let after : i * n + n ≡ (i + 1) * n = omega arith in
      let whole : length left ≡ length row + length rest = ap length q ∙ length-append row rest in
      let l = all_left in
      record {
        here = split_lt i n (λ h. h) (λ h. let all : i ≡ n = omega arith in let past : i * n ≡ n * n = ap (λ (k : ℕ). k * n) all in absurd (omega arith));
        is = sym (ap (λ (k : ℕ). take k (row ++ rest)) (sym long) ∙ take-append_seam row rest) ∙ ap (take n) (sym q ∙ e);
        behind = sym (ap (λ (k : ℕ). drop k (row ++ rest)) (sym long) ∙ drop-append_seam row rest) ∙ ap (drop n) (sym q ∙ e)
            ∙ drop-drop n (i * n) cells ∙ ap (λ (k : ℕ). drop k cells) after;
      }

  pub no_row : length left < n → i ≡ n
  no_row h = split_lt i n (λ l. let f = mul-le-mul_right n l in let s = all_left in absurd (omega arith)) (λ l. omega arith)

-- ---- the cells of a block

pub none-given : (n : ℕ) (filled before : List ℕ) → before ≡ laid (0 * n) filled before
none-given n filled before = laid_none filled before ∙ ap (λ (k : ℕ). laid k filled before) (sym (zero-mul n))

module _ (n : ℕ) (planes before area : List ℕ) (few : n ≤ 64) (size : length before ≡ n * n) (i : ℕ) (hi : i < n) where
  pub row-given : (count : ℕ) (w part given : List ℕ) → count ≡ n → w ≡ block_of planes i → length part ≡ n → given ≡ row_after w part
      → area ≡ laid (i * n) (planes_matrix n planes) before
      → put_mid (i * n) count area given ≡ laid ((i + 1) * n) (planes_matrix n planes) before
  unfolding row_cells
  row-given count w part given c e long g a =
      let f = row_fits n i hi few in
      let square = length-grid n (λ i j. lane planes (i * 64 + j)) in
      let next : i * n + n ≡ (i + 1) * n = omega arith in
      let made : given ≡ list_of n (λ j. set_at w j) =
      g ∙ sym (row-served w part (omega arith)) ∙ ap (λ (k : ℕ). row_cells k w) long in
      let size-given : length given ≡ n = ap length made ∙ list_length n _ in
      put_back area given (i * n) count n c size-given
      ∙ part_laid (planes_matrix n planes) before area given (i * n) n (omega (arith, f.row)) (omega arith) size-given
      (λ r l.
      let place : 64 * i + r ≡ i * 64 + r = omega arith in
      ap (λ (x : List ℕ). get_or x r 0) made ∙ list_at n (λ j. set_at w j) r l ∙ ap (λ (x : List ℕ). set_at x r) e
      ∙ set_block planes i r (omega arith) ∙ ap (lane planes) place
      ∙ sym (cell-grid n (λ i j. lane planes (i * 64 + j)) i r hi l))
      a
      ∙ ap (λ (k : ℕ). laid k (planes_matrix n planes) before) next
