-- `lanes::along::along` meets its contract.
use Rattle.std.proofs.Common.{rules}
use Rattle.lanes.specs.Inner.{wired_by}
use Rattle.lanes.proofs.Made.{from_fn_list}
use Rattle.lanes.proofs.Unions.{picked_eight}
use Rattle.lanes.proofs.along.along.Goals as goal

pub returns : goal.returns
unfolding wired_by
returns c =
    from_fn_list c.from_fn.ensures.items (λ i y q h k. (search rules, picked_eight i _ _ y (search rules) (search rules) (search rules)))
