-- `report_text::lines::put_accepted` meets its contract: its fields one behind the other are the line.
use Rattle.report_text.proofs.LineLaws.{line_begin, line_more, line-end}
use Rattle.report_text.proofs.lines.put_accepted.Goals as goal

pub returns : goal.returns
returns c = line_begin c.put_word.ensures (line_more c.put_field.ensures (line-end c.put_field-2.ensures c.put_word-2.ensures))
