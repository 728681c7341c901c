-- `report_text::lines::Pairs::put_all` meets its contract. The loop's invariant: the lines of the rows above `i` are put.
use native.Mathlib.Omega.{arith}
use Rattle.report_text.proofs.LineLaws.{lines_none, row_adds}
use Rattle.report_text.proofs.lines.Pairs.put_all.Goals as goal

pub loop-i-init : goal.loop-i-init
loop-i-init c = lines_none c.args.self.now _ c.args.page.now (omega arith)

pub loop-i-preserved : goal.loop-i-preserved
loop-i-preserved c = row_adds c.args.self.now _ (omega arith) c.loop-i.invariant c.put_row.ensures
