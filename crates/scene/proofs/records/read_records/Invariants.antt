-- The invariant of the loop of `scene::records::read_records` is `Going`: the areas hold what the records before `at` have said, and
-- are still the caller's. The measure is what is left of the scene.
use Prim.Native.Nat.{◌-◌}
use lib.ListN.{length}
use Rattle.filing.specs.LentAreas.{held, SameAreas}
use Rattle.scene.proofs.Going.{Going}
use Rattle.scene.proofs.records.read_records.Given as goal

abbrev pub invariant-loop-identifier : goal.invariant-loop-identifier
invariant-loop-identifier l = SameAreas l.fn.areas l.areas × Going l.scene (held l.areas) l.at l.count l.statements

abbrev pub decreases-loop-identifier : goal.decreases-loop-identifier
decreases-loop-identifier l = length l.scene - l.at
