-- `scene::refused_record` meets its contract: the part of the scene that `read` leads to.
use mathlib.Core.Path.{refl}
use Rattle.scene.proofs.Parts.{part_is}
use Rattle.scene.proofs.refused_record.Goals as goal

pub returns : goal.returns
returns c =
    part_is _ (record { identifiers-long = refl; cells-long = refl; marks-long = refl }) c.read.result _ _ _ c.read.ensures
    c.span_of-span.ensures
