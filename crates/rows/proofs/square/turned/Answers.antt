-- `rows::square::turned` meets its contract.
use mathlib.Core.Path.{◌∙◌}
use Rattle.std.proofs.Common.{rules}
use Rattle.rows.proofs.Turning.{turned_bytes}
use Rattle.rows.proofs.square.turned.Goals as goal

pub returns : goal.returns
returns c = c.to_le_bytes.ensures ∙ turned_bytes _ _ _ (search rules) (search rules) c.from_le_bytes.ensures c.flipped.ensures
