-- `round::words::met` meets its contract.
use Rattle.std.proofs.Common.{rules}
use Rattle.lanes.proofs.Made.{from_fn_list}
use Rattle.round.proofs.words.met.Goals as goal

pub returns : goal.returns
returns c = from_fn_list c.from_fn.ensures.items (λ i y q h k. search rules)
