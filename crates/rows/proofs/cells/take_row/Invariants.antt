-- `rows::cells::take_row` meets its contract. The loop's invariant: the words have the lanes of the blocks so far.
use Rattle.std.proofs.Common.{◌≡◌, ◌*◌}
use Rattle.rows.proofs.Placing.{row_upto}
use Rattle.rows.proofs.cells.take_row.Given as goal

abbrev pub invariant-loop-block : goal.invariant-loop-block
invariant-loop-block l = l.w ≡ row_upto l.cells (8 * l.block)
