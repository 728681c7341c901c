-- `writer::named::stated_count` meets its contract.
use mathlib.Core.Path.{refl}
use native.Mathlib.Omega.{arith}
use Rattle.std.proofs.Common.{subst, length, ◌≡◌}
use Rattle.writer.specs.Scene.{stated_count}
use Rattle.writer.proofs.SceneLaws.{counted_same, counted_more, counted_most}
use Rattle.writer.proofs.named.stated_count.Goals as goal
use Rattle.writer.proofs.named.stated_count.Goals.{then-set, else-set}

pub loop-set-init : goal.loop-set-init
unfolding stated_count
loop-set-init c = refl

pub overflow_add-stated : goal.overflow_add-stated
overflow_add-stated c = omega (arith, counted_most c.args.cells.now c.loop-set.set-index, c.loop-set.invariant, c.type_inv.cells)

pub loop-set-preserved : goal.loop-set-preserved
loop-set-preserved c =
    let cells = c.args.cells.now in
    let p = c.loop-set.set-index in
    elim c.if-set.branch [
      | then-set w ↦ omega (arith, counted_more cells p w.if-set.true)
      | else-set w ↦ omega (arith, counted_same cells p w.if-set.false)
    ]

pub returns : goal.returns
returns c =
    let all : c.loop-set.set-index ≡ length c.args.cells.now = omega arith in
    subst (λ p. c.loop-set.stated ≡ stated_count p c.args.cells.now) all c.loop-set.invariant
