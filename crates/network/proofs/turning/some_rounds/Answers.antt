-- `turning::some_rounds` meets its contract. The loop's invariant: the rounds from the matrix have come to the one whose planes `new`
-- holds, and the live regions are those that the next round has to go through.
use mathlib.Core.Path.{refl, subst}
use native.Mathlib.Omega.{arith}
use Rattle.network.specs.Inner.{EndsUsedUp, Ends}
use Rattle.network.proofs.InPlanes.{loop_starts, loop_used_up, loop_empties, loop_rests, loop_goes_on}
use Rattle.std.proofs.Common.{rules}
use Rattle.network.proofs.turning.some_rounds.Goals as goal

pub loop-count-init : goal.loop-count-init
loop-count-init c =
    (loop_starts _ _ _ _ _ _ _ c.requires.0 c.requires.1 c.take.ensures, refl)

pub returns-in-Err : goal.returns-in-Err
unfolding Ends
returns-in-Err c =
    let at = c.loop-count.invariant in loop_empties at.0 (omega arith) c.keep.ensures at.1 c.in-Err.ensures

pub returns-in-Ok-eq0 : goal.returns-in-Ok-eq0
unfolding Ends
returns-in-Ok-eq0 c =
    let at = c.loop-count.invariant in loop_rests at.0 (omega arith) c.keep.ensures at.1 c.in-Ok-eq0.ensures c.in-Ok-eq0.field-0-test

pub loop-count-preserved : goal.loop-count-preserved
loop-count-preserved c =
    let at = c.loop-count.invariant in (
      loop_goes_on at.0 (omega arith) c.keep.ensures at.1 c.in-Ok.ensures c.in-Ok.changed-test.1,
      search rules,
    )

pub returns : goal.returns
unfolding Ends
returns c =
    let l = c.loop-count in
    subst (EndsUsedUp c.args.n c.args.most c.args.cells.now l.old l.new) (omega arith) (loop_used_up l.invariant.0 c.loop-count-test.false)
