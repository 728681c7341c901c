-- `rounds::run_in` meets its contract: what is left where the rounds ended is what the run promises.
use Rattle.network.proofs.Left.{ends_placed, leaves-meets}
use Rattle.std.proofs.Common.{rules}
use Rattle.network.proofs.rounds.run_in.Goals as goal

pub leave-requires : goal.leave-requires
leave-requires c =
    let ends = rw c.matrix-matrix.ensures.size at c.some_rounds-ended.ensures in (ends_placed _ _ _ _ _ _ ends, search rules, search rules)

pub returns-clause-left : goal.returns-clause-left
returns-clause-left c =
    let areas = c.args.areas.now in
    let ends = rw (c.matrix-matrix.ensures.size, c.matrix-matrix.ensures.cells) at c.some_rounds-ended.ensures in
    leaves-meets _ _ _ _ _ _ _ _ _ areas.first_size areas.second_size _ _ ends c.leave.ensures.left
