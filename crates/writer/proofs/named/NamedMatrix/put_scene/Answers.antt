-- `writer::named::NamedMatrix::put_scene` meets its contract: regions, statements and End, one behind the other.
use native.Mathlib.Omega.{arith}
use Rattle.writer.proofs.PutLaws.{scene_parts, scene_put}
use Rattle.writer.proofs.named.NamedMatrix.put_scene.Goals as goal

pub put_regions-requires : goal.put_regions-requires
put_regions-requires c = omega (arith, scene_parts _ _ _ c.args.self.now.sized)

pub put_statements-end-requires : goal.put_statements-end-requires
put_statements-end-requires c = omega (arith, scene_parts _ _ _ c.args.self.now.sized)

pub bounds-buffer-end : goal.bounds-buffer-end
bounds-buffer-end c = omega (arith, scene_parts _ _ _ c.args.self.now.sized)

pub returns : goal.returns
returns c = scene_put _ _ _ c.args.self.now.sized _ _ _ _ c.put_regions.ensures c.put_statements-end.ensures
