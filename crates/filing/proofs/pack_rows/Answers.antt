-- `filing::pack_rows` meets its contract: the loop ends with all entries packed.
use native.Mathlib.Omega.{arith}
use Rattle.filing.proofs.Packing.{packing_ends}
use Rattle.filing.proofs.pack_rows.Goals as goal

pub returns : goal.returns
returns g c = packing_ends _ _ _ _ _ c.requires c.loop-at.invariant (omega arith)
