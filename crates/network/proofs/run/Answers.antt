-- `run` meets its contract: its checks are those of the definition, and the rest it leaves to the fronts.
use mathlib.Core.Path.{sym, ◌∙◌}
use Rattle.std.proofs.lemmas.Result.{err_from_is_err_and}
use Rattle.network.proofs.Fronts.{size_served, square_front, ran_fronts, ran_refused}
use Rattle.network.proofs.run.Goals as goal

pub returns-in_err-size : goal.returns-in_err-size
returns-in_err-size c =
    let p = err_from_is_err_and c.from_residual.result c.from_residual.ensures.1 in
    rw (p.1, p.2) (ran_refused _ _ _ _ _ _ (sym c.size_within.ensures ∙ c.in_err-size.was))

pub run-requires : goal.run-requires
run-requires c =
    let s = size_served _ _ _ _ (sym c.size_within.ensures ∙ c.in_ok-size.was) in
    rw s.0 (square_front _ _ s.1 s.2, square_front _ _ s.1 s.3)

pub returns : goal.returns
returns c =
    let s = size_served _ _ _ _ (sym c.size_within.ensures ∙ c.in_ok-size.was) in
    rw s.0 (ran_fronts _ _ _ _ _ _ _ _ s.1 s.2 s.3 (rw s.0 at c.run.ensures))
