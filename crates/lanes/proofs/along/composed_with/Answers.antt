-- `lanes::along::composed_with` meets its contract.
use Rattle.relation.specs.Composition.{rows, table}
use Rattle.lanes.specs.Words.{wired}
use Rattle.lanes.specs.Inner.{wired_by}
use Rattle.lanes.proofs.along.composed_with.Goals as goal

pub returns : goal.returns
unfolding wired wired_by table rows
returns g c = c.along.ensures
