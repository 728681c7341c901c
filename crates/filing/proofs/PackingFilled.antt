-- Numbers packed by a loop that fills the area from its front: it reads none that it has written.
use Rattle.std.proofs.Common.{◌≡◌, sym, ◌∙◌, arith, List, ℕ, ◌+◌, ◌*◌, ◌<◌, length, get_or, set}
use Rattle.lists.proofs.Splits.{split_lt}
use Rattle.lists.proofs.LaidLaws.{get_or-laid_past}
use Rattle.lists.proofs.Filling.{Filling, filling_more}
use Rattle.matrix.specs.Square.{most_regions}
use Rattle.matrix.specs.Cells.{row, column}
use Rattle.filing.specs.Areas.{packed}
use Rattle.filing.specs.Inner.{Rows}
use Rattle.filing.proofs.Packing.{source_le, length-packed, packed_in, packed_past}

module _ (n : ℕ) (before cells : List ℕ) (at : ℕ) (rows : Rows before n) (w : Filling (packed 0 n before) before cells at) where
  pub packing_rows : Rows cells n
  packing_rows = record { long = w.long ∙ rows.long; few = rows.few }

  not_written : get_or (packed 0 n cells) at 0 ≡ get_or (packed 0 n before) at 0
  not_written =
      split_lt at (n * n)
      (λ l.
      packed_in 0 n cells packing_rows at l
      ∙ rw w.so_far
      (get_or-laid_past at (packed 0 n before) before (row n at * most_regions + column n at) (source_le n at rows.few)
      (omega (arith, w.within, length-packed 0 n before rows)))
      ∙ sym (packed_in 0 n before rows at l))
      (λ l. packed_past 0 n cells packing_rows at l ∙ sym (packed_past 0 n before rows at l))

  pub packing_more : (x : ℕ) → at < length cells → x ≡ get_or (packed 0 n cells) at 0
      → Filling (packed 0 n before) before (set cells at x) (at + 1)
  packing_more x h e = filling_more (packed 0 n before) before cells at (length-packed 0 n before rows) w x h (e ∙ not_written)
