-- `report_text::lines::Pairs::put_all` meets its contract. The loop's invariant: the lines of the rows above `i` are put.
use Rattle.std.proofs.Common.{◌*◌}
use Rattle.text.specs.Put.{AddsOn}
use Rattle.report_text.specs.Inner.{lines_below}
use Rattle.report_text.proofs.lines.Pairs.put_all.Given as goal

abbrev pub invariant-loop-i : goal.invariant-loop-i
invariant-loop-i l = AddsOn (lines_below l.self (l.i * l.self.stated.n)) l.initial.page l.page
