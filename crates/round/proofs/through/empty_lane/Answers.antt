-- `round::through::empty_lane` meets its contract.
use mathlib.Core.Path.{ap, ◌∙◌}
use Rattle.std.proofs.Common.{rules}
use Rattle.lists.specs.Least.{found_below}
use Rattle.round.proofs.Going.{empty-least}
use Rattle.round.proofs.through.empty_lane.Goals as goal

pub returns : goal.returns
returns c = c.lowest.ensures ∙ ap (found_below 64) (empty-least _ c.members.result (search rules) c.members.ensures)
