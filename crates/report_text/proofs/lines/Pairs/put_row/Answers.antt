-- `report_text::lines::Pairs::put_row` meets its contract. The loop's invariant: the lines of the regions before `j` are put.
use native.Mathlib.Omega.{arith}
use Rattle.report_text.proofs.LineLaws.{row_none, pair_adds}
use Rattle.report_text.proofs.lines.Pairs.put_row.Goals as goal

pub loop-j-init : goal.loop-j-init
loop-j-init c = row_none c.args.self.now c.args.i _ c.args.page.now (omega arith)

pub loop-j-preserved : goal.loop-j-preserved
loop-j-preserved c = pair_adds c.args.self.now c.args.i _ (omega arith) c.loop-j.invariant c.put_pair.ensures
