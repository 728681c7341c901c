-- `report_text::lines::put_field` meets its contract: a space, and behind it the number.
use Rattle.report_text.proofs.LineLaws.{field_adds}
use Rattle.report_text.proofs.lines.put_field.Goals as goal

pub returns : goal.returns
returns c = field_adds c.put_word.ensures c.put_decimal.ensures
