-- `lanes::along::composed` meets its contract: each arm of the match is the relation's row.
use native.Mathlib.Omega.{arith}
use Rattle.lanes.proofs.Wiring.{wired-none}
use Rattle.lanes.proofs.along.composed.Goals as goal

pub returns-in_default : goal.returns-in_default
returns-in_default c = wired-none c.args.relation _ (omega arith)
