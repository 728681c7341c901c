-- `report_text::lines::Pairs::put_row` meets its contract. The loop's invariant: the lines of the regions before `j` are put.
use Rattle.std.proofs.Common.{◌+◌, ◌-◌}
use Rattle.text.specs.Put.{AddsOn}
use Rattle.report_text.specs.Inner.{row_lines}
use Rattle.report_text.proofs.lines.Pairs.put_row.Given as goal

abbrev pub invariant-loop-j : goal.invariant-loop-j
invariant-loop-j l = AddsOn (row_lines l.self l.i (l.j - (l.i + 1))) l.initial.page l.page
