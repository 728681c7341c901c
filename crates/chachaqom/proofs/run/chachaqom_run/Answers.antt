-- `chachaqom::run::chachaqom_run` meets its contract: the answer area first, then the area's number, then what the rounds left.
use mathlib.Core.Path.{sym, ◌∙◌}
use Rattle.chachaqom.proofs.Promised.{area_told, no_area_told, run_no_area, run_answered}
use Rattle.chachaqom.proofs.run.chachaqom_run.Goals as goal

pub returns-in_default : goal.returns-in_default
returns-in_default c =
    run_no_area c.if-answer-ne20.false (no_area_told c.args.area (sym c.in_default.is ∙ c.try_from.ensures)) c.of_verdict.ensures
    c.put_answer.ensures

pub returns : goal.returns
returns c =
    let told = area_told c.args.area (sym c.in-Ok.is ∙ c.try_from.ensures) in
    run_answered c.if-answer-ne20.false told.0 told.1 c.run-verdict.ensures c.of_verdict-2.ensures c.put_answer-2.ensures
