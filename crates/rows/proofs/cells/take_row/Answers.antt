-- `rows::cells::take_row` meets its contract. The loop's invariant: the words have the lanes of the blocks so far.
use mathlib.Core.Path.{◌∙◌}
use native.Mathlib.Omega.{arith}
use Rattle.std.proofs.Common.{◌*◌, rules}
use Rattle.lanes.proofs.Made.{map_list}
use Rattle.rows.proofs.Placing.{row-none, row_more, row_rest, row_all}
use Rattle.rows.proofs.cells.take_row.Goals as goal

pub loop-block-init : goal.loop-block-init
loop-block-init c = row-none _

pub returns-then-cells-at : goal.returns-then-cells-at
returns-then-cells-at c =
    let loop = c.loop-block in
    map_list c.map.ensures.items (λ i y q h k. search rules)
    ∙ row_rest c.args.cells.now loop.w (8 * loop.block) (omega arith) (omega arith) loop.invariant

pub loop-block-preserved : goal.loop-block-preserved
loop-block-preserved c =
    let loop = c.loop-block in
    c.with_lanes-more.ensures
    ∙ row_more c.args.cells.now loop.w _ _ (8 * loop.block) _ (omega arith) (omega arith) loop.invariant c.eight_cells.ensures c.turned.ensures

pub returns : goal.returns
returns c = row_all c.args.cells.now c.loop-block.w (8 * c.loop-block.block) (omega arith) c.loop-block.invariant
