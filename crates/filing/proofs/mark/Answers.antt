-- `filing::mark` meets its contract: where a mark is put its cell is among 64 rows of 64, so its place is a small number.
use Rattle.std.proofs.Common.{arith, sym, ◌∙◌}
use Rattle.filing.specs.Said.{statement as stating}
use Rattle.filing.proofs.Marking.{mark_inside}
use Rattle.filing.proofs.mark.Goals as goal

pub overflow_mul-at : goal.overflow_mul-at
overflow_mul-at c =
    let s = stating c.args.from c.args.to c.args.stated.0 in
    let inside = mark_inside _ s _ _ c.at-set.ensures c.intersect-left.ensures (sym c.ne.ensures ∙ c.if-ne.true) in
    omega (arith, inside.0)

pub overflow_add-at : goal.overflow_add-at
overflow_add-at c =
    let s = stating c.args.from c.args.to c.args.stated.0 in
    let inside = mark_inside _ s _ _ c.at-set.ensures c.intersect-left.ensures (sym c.ne.ensures ∙ c.if-ne.true) in
    omega (arith, inside.0, inside.1)
