-- `round::rounds::make_blocks` meets its contract. The loop's invariant is `Turning`: the blocks before `row` are made, and none has an empty set.
use Prim.Native.Nat.{ℕ, ◌+◌, ◌<◌}
use mathlib.Core.Path.{sym, ap, ◌∙◌, subst}
use mathlib.Core.List.{List}
use native.Mathlib.Omega.{arith}
use lib.Bits.{bit_or}
use Rattle.lists.proofs.Found.{found_some, found_none}
use Rattle.planes.proofs.Laying.{loaded-there}
use Rattle.round.specs.Inner.{lanes_that_differ, Blocks}
use Rattle.round.proofs.Turning.{Turning, turning_starts, turning_stops, turning_goes, turning_ends, turned_block, chosen-room}
use Rattle.std.proofs.Common.{rules, Err}
use Rattle.round.proofs.rounds.make_blocks.Goals as goal

pub loop-row-init : goal.loop-row-init
loop-row-init c = turning_starts _ _ _ _

pub through-all-requires : goal.through-all-requires
through-all-requires c =
    chosen-room _ _ _ _ _ _ _ _ c.requires.0 c.chosen.ensures

pub returns-in-Some : goal.returns-in-Some
returns-in-Some c =
    let loop = c.loop-row in
    let args = c.args in
    let ready = c.requires.0 in
    let made = turned_block args.n args.live loop.row c.chosen.result args.old.now args.onward.now c.block_at-w.result c.through-all.result _ _
    ready c.requires.1 (λ i. (c.type_inv.old i).fits) (omega arith) (c.block_at-w.ensures ∙ loaded-there _ _ (omega arith))
    c.chosen.ensures c.through-all.ensures in
    let found = found_some 64 _ c.in-Some.ensures in
    subst (λ (l : List ℕ). Blocks args.n args.live args.old.now args.new.now l (Err (record { row = loop.row; column = c.in-Some.column })))
    (sym c.put_block.ensures)
    (turning_stops args.n args.live args.old.now args.new.now ready.few ready.whole ready.made loop.new c.through-all.result loop.changed loop.row
    (omega arith) loop.invariant made c.in-Some.column (subst (λ (x : ℕ). x < 64) (sym found.0) found.1) found.0)

pub loop-row-preserved : goal.loop-row-preserved
loop-row-preserved c =
    let loop = c.loop-row in
    let args = c.args in
    let ready = c.requires.0 in
    let block = c.block_at-w.ensures ∙ loaded-there args.old.now loop.row (omega arith) in
    let made = turned_block args.n args.live loop.row c.chosen.result args.old.now args.onward.now c.block_at-w.result c.through-all.result _ _
    ready c.requires.1 (λ i. (c.type_inv.old i).fits) (omega arith) block c.chosen.ensures c.through-all.ensures in
    subst (λ (l : List ℕ). Turning args.n args.live args.old.now args.new.now l (bit_or loop.changed c.differing-changed.result) (loop.row + 1)) (sym c.put_block.ensures)
    (turning_goes args.n args.live args.old.now args.new.now ready.few ready.whole ready.made loop.new c.through-all.result loop.changed loop.row
    (omega arith) loop.invariant made c.differing-changed.result (found_none 64 _ c.in_default.ensures) (search rules)
    (c.differing-changed.ensures ∙ ap (λ (w : List ℕ). lanes_that_differ c.through-all.result w) block))

pub returns : goal.returns
returns c =
    let loop = c.loop-row in
    let args = c.args in
    let ready = c.requires.0 in
    turning_ends args.n args.live args.old.now args.new.now ready.few ready.whole ready.made
    loop.new loop.changed loop.row (omega arith) loop.invariant
