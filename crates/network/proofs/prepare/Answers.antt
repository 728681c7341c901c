-- `prepare` meets its contract: its checks are those of the definition, and the rest it leaves to the fronts.
use mathlib.Core.Path.{refl, sym, ◌∙◌}
use Rattle.std.proofs.lemmas.Result.{err_from_is_err_and}
use Rattle.answer.specs.Answer.{answer}
use Rattle.refinement.proofs.Limits.{limits_kept}
use Rattle.refinement.proofs.Readied.{readied_wrong_cells}
use Rattle.network.proofs.Fronts.{size_served, square_front, prepared_fronts, prepared_untouched, prepared_refused}
use Rattle.network.proofs.prepare.Goals as goal

pub returns-in_err-size : goal.returns-in_err-size
returns-in_err-size c =
    let p = err_from_is_err_and c.from_residual.result c.from_residual.ensures.1 in
    rw (p.1, p.2) (prepared_refused _ _ _ _ _ (sym c.size_within.ensures ∙ c.in_err-size.was))

pub returns-then-cells-size : goal.returns-then-cells-size
returns-then-cells-size c =
    let s = size_served _ _ _ _ (sym c.size_within.ensures ∙ c.in_ok-size.was) in
    prepared_untouched _ _ _ _ (answer 2 0 0 0 0) _ (readied_wrong_cells _ _ _ _ s.1 (rw s.0 at c.if-cells-size.true)) refl refl

pub make_ready-requires : goal.make_ready-requires
make_ready-requires c =
    let s = size_served _ _ _ _ (sym c.size_within.ensures ∙ c.in_ok-size.was) in
    let r = limits_kept _ _ _ _ s.1 (c.if-cells-size.false ∙ s.0) s.2 s.3 in
    rw s.0 (r.square, square_front _ _ s.1 s.2, square_front _ _ s.1 s.3)

pub returns : goal.returns
returns c =
    let s = size_served _ _ _ _ (sym c.size_within.ensures ∙ c.in_ok-size.was) in
    let r = limits_kept _ _ _ _ s.1 (c.if-cells-size.false ∙ s.0) s.2 s.3 in
    rw s.0 (prepared_fronts _ _ _ _ _ _ _ r (rw s.0 at c.make_ready.ensures))
