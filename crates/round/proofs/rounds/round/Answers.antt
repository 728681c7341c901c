-- `round::rounds::round` meets its contract.
use mathlib.Core.Path.{sym, ◌∙◌}
use Rattle.round.proofs.Serving.{served, served_ready, rounds-made}
use Rattle.round.proofs.rounds.round.Goals as goal

pub make_round-requires : goal.make_round-requires
make_round-requires c =
    served_ready c.args.live _ c.below.ensures (served _ _ _ _ (sym c.serves.ensures ∙ c.if-serves.true))

pub returns-then-serves : goal.returns-then-serves
returns-then-serves c =
    rounds-made _ _ _ _ _ _ _ _ _ (sym c.serves.ensures ∙ c.if-serves.true) c.below.ensures
    c.make_round.ensures
