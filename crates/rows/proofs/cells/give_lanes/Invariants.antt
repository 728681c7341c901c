-- `rows::cells::give_lanes` meets its contract. The loop's invariant: the cells of the blocks so far are made.
use Rattle.std.proofs.Common.{◌≡◌, ◌*◌, take}
use Rattle.lanes.specs.Lists.{list_of}
use Rattle.lanes.specs.Words.{set_at}
use Rattle.rows.proofs.cells.give_lanes.Given as goal

abbrev pub invariant-loop-block : goal.invariant-loop-block
invariant-loop-block l = take (8 * l.block) l.cells ≡ list_of (8 * l.block) (set_at l.w)
