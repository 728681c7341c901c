-- `chachaqom::read::hand_over` meets its contract: any reading but one of areas of another length leaves numbers to hand over.
use mathlib.Core.Path.{◌∙◌}
use mathlib.Core.Bool.{true≢false}
use Rattle.chachaqom.proofs.Crossed.{identifiers_flat, marks_flat}
use Rattle.chachaqom.proofs.Promised.{two_alone, handed-over}
use Rattle.chachaqom.proofs.read.hand_over.Goals as goal

pub returns-then-ne : goal.returns-then-ne
returns-then-ne c =
    handed-over (two_alone c.args.reading (λ e. true≢false (rw e at c.if-ne.ensures)))
    (c.put_each.ensures ∙ identifiers_flat c.args.numbers.now) (c.put_each-then-ne.ensures ∙ marks_flat c.args.statements.now)
