-- `writer::put::put_regions` meets its contract.
use mathlib.Core.Path.{refl, ◌∙◌}
use native.Mathlib.Omega.{arith}
use Rattle.writer.specs.Scene.{region_records}
use Rattle.writer.proofs.PutLaws.{region_next}
use Rattle.writer.proofs.put.put_regions.Goals as goal

pub loop-place-init : goal.loop-place-init
unfolding region_records
loop-place-init c = (refl, refl)

pub loop-place-preserved : goal.loop-place-preserved
loop-place-preserved c = (
  c.put_region.auto.buffer ∙ c.loop-place.invariant.0,
  region_next c.args.identifiers.now c.args.buffer.now _ _ c.loop-place.place _ (omega arith) refl
      c.loop-place.invariant.1
      c.put_region.ensures,
)
