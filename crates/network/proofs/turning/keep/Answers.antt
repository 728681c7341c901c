-- `turning::keep` meets its contract: `old` is filled with the words of `new` from its front.
use mathlib.Core.Path.{refl, sym}
use native.Mathlib.Omega.{arith}
use Rattle.lists.proofs.Filling.{filling_begins, filling_more, filling_ends}
use Rattle.network.proofs.turning.keep.Goals as goal

pub loop-place-init : goal.loop-place-init
loop-place-init c = filling_begins _ _

pub loop-place-preserved : goal.loop-place-preserved
loop-place-preserved c = filling_more _ _ _ _ (sym c.requires) c.loop-place.invariant _ (omega arith) refl

pub returns : goal.returns
returns c = filling_ends _ _ _ _ (sym c.requires) c.loop-place.invariant (omega arith)
