-- `plain::is_plain` meets its contract: a cell does not pass where there is a least one that does not.
use lib.ListN.{length}
use Rattle.std.proofs.Common.{rules}
use Rattle.std.proofs.iter.runs.Sources.{ranges}
use Rattle.matrix.specs.Cells.{row, column}
use Rattle.refinement.specs.Run.{is_plain_cell, first_unplain, is_plain}
use Rattle.network.proofs.Searches.{all_pass}
use Rattle.network.proofs.plain.is_plain.Goals as goal

pub returns : goal.returns
unfolding is_plain first_unplain
returns c =
    let m = c.args.matrix.now in
    rw (← m.size)
    (all_pass (length m.cells.now) (λ p. is_plain_cell m.n m.cells.now (row m.n p) (column m.n p)) c.all.result (search (rules, ranges)))
