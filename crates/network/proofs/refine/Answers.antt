-- `refine` meets its contract: a refused preparation is its refusal, and after a ready one the run is all rounds.
use Rattle.std.proofs.lemmas.Result.{err_from_is_err_and}
use Rattle.network.proofs.Whole.{whole_ready, whole_refused}
use Rattle.network.proofs.refine.Goals as goal

pub returns-in_err-prepare : goal.returns-in_err-prepare
returns-in_err-prepare c =
    let p = err_from_is_err_and c.from_residual.result c.from_residual.ensures.1 in rw (p.1, p.2) (whole_refused _ c.in_err-prepare.ensures)

pub returns : goal.returns
returns c = whole_ready c.in_ok-prepare.ensures c.run.ensures
