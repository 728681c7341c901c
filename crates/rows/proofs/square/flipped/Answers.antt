-- `rows::square::flipped` meets its contract.
use Rattle.rows.proofs.Flipping.{has_flipped}
use Rattle.rows.proofs.square.flipped.Goals as goal

pub returns : goal.returns
returns c = record { bit = has_flipped c.args.x }
