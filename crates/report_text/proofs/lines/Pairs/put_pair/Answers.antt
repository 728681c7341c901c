-- `report_text::lines::Pairs::put_pair` meets its contract: its fields one behind the other are the line.
use Rattle.text.proofs.PutLaws.{puts_adds}
use Rattle.report_text.proofs.LineLaws.{line_begin, line_more, line-end}
use Rattle.report_text.proofs.lines.Pairs.put_pair.Goals as goal

pub returns : goal.returns
returns c =
    rw (← c.class_of.ensures, ← c.into.ensures, ← c.identifier_at-first.ensures, ← c.identifier_at-second.ensures, ← c.from.ensures, ← c.from-2.ensures, ← c.from-3.ensures)
    (line_begin c.put_decimal.ensures
    (line_more c.put_field.ensures
    (line_more c.put_field-2.ensures
    (line_more (puts_adds c.put_word.ensures) (line_more c.put_field-3.ensures (line-end c.put_field-4.ensures c.put_word-2.ensures))))))
