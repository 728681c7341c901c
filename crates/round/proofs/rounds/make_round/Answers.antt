-- `round::rounds::make_round` meets its contract.
use Rattle.round.proofs.Serving.{ready_words}
use Rattle.std.proofs.Common.{rules}
use Rattle.round.proofs.rounds.make_round.Goals as goal

pub make_blocks-requires : goal.make_blocks-requires
make_blocks-requires c =
    ready_words _ _ _ (search rules) c.requires c.spread_out.ensures
