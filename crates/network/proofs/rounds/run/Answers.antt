-- `rounds::run` meets its contract: the test decides, and where it passes the rounds do.
use mathlib.Core.Path.{sym, ◌∙◌}
use Rattle.network.proofs.Endings.{unplain_meets}
use Rattle.network.proofs.rounds.run.Goals as goal

pub returns-then-not-is_plain : goal.returns-then-not-is_plain
returns-then-not-is_plain c =
    let tested = rw (c.matrix.ensures.size, c.matrix.ensures.cells) at c.is_plain.ensures in
    unplain_meets _ _ _ _ _ (sym tested ∙ c.if-not-is_plain.true)
