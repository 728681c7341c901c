-- `chachaqom::write::identifiers_in` meets its contract: each identifier is that of its four bytes.
use mathlib.Core.Path.{sym, ◌∙◌}
use native.Mathlib.Omega.{arith}
use Rattle.lists.proofs.Filling.{filling_begins, filling_more, filling_ends}
use Rattle.chachaqom.proofs.Crossed.{length_numbers, number_in}
use Rattle.chachaqom.proofs.write.identifiers_in.Goals as goal

pub loop-place-init : goal.loop-place-init
loop-place-init c = filling_begins _ _

pub loop-place-preserved : goal.loop-place-preserved
loop-place-preserved c =
    filling_more _ _ _ _ (length_numbers _ c.args.bytes.now) c.loop-place.invariant _ (omega arith)
    (c.number_at.ensures ∙ sym (number_in _ c.args.bytes.now c.loop-place.place (omega arith)))

pub returns : goal.returns
returns c = filling_ends _ _ _ _ (length_numbers _ c.args.bytes.now) c.loop-place.invariant (omega arith)
