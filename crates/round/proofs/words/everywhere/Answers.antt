-- `round::words::everywhere` meets its contract.
use lib.ListN.{get_or}
use Rattle.std.proofs.Common.{rules}
use Rattle.round.specs.Inner.{spread}
use Rattle.lanes.proofs.Digits.{bit_times}
use Rattle.lanes.proofs.Made.{from_fn_list}
use Rattle.round.proofs.words.everywhere.Goals as goal

pub returns : goal.returns
unfolding spread
returns c = from_fn_list c.from_fn.ensures.items (λ i y q h k. (search rules, search (rules, bit_times (get_or c.args.w i 0) c.args.k 18446744073709551615)))
