-- `rows::cells::give_row` meets its contract.
use mathlib.Core.Path.{◌∙◌}
use native.Mathlib.Omega.{arith}
use Rattle.rows.proofs.Placing.{row-served, row_kept}
use Rattle.rows.proofs.cells.give_row.Goals as goal

pub returns-then-cells-le64 : goal.returns-then-cells-le64
returns-then-cells-le64 c = c.give_lanes.ensures ∙ row-served _ c.args.cells.now (omega arith)

pub returns-else-cells-le64 : goal.returns-else-cells-le64
returns-else-cells-le64 c = row_kept _ c.args.cells.now (omega arith)
