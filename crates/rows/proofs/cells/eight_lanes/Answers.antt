-- `rows::cells::eight_lanes` meets its contract.
use Rattle.std.proofs.Common.{arith, rules}
use Rattle.std.proofs.lemmas.Grind.{common_steps}
use Rattle.lanes.proofs.Made.{map_list}
use Rattle.rows.specs.Inner.{eight_from}
use Rattle.rows.proofs.cells.eight_lanes.Goals as goal

pub returns : goal.returns
unfolding eight_from
returns c = map_list c.map.ensures.items (λ i y q h k. (search rules, grind (arith, common_steps)))
