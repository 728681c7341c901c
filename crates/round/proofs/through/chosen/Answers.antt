-- `round::through::chosen` meets its contract.
use Rattle.round.proofs.Going.{chosen_is}
use Rattle.std.proofs.Common.{rules}
use Rattle.round.proofs.through.chosen.Goals as goal

pub returns : goal.returns
returns c = chosen_is c.args.live c.common.result c.args.b _ (search rules) (search rules) (search rules) c.common.ensures
