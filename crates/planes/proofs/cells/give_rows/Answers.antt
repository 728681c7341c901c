-- `planes::cells::give_rows` meets its contract. The loop's invariant: the rows before i are given back.
use Prim.Native.Nat.{ℕ, ◌+◌, ◌*◌, ◌-◌}
use mathlib.Core.Path.{◌≡◌, ap, ◌∙◌}
use native.Mathlib.Omega.{arith}
use borrow.Rule.Slice.PartMut.{mid_len}
use Rattle.lists.specs.Laid.{laid}
use Rattle.matrix.proofs.CellLaws.{length-grid}
use Rattle.lists.proofs.LaidLaws.{laid_all}
use Rattle.planes.specs.Planes.{planes_matrix}
use Rattle.planes.proofs.Laying.{loaded-there}
use Rattle.planes.proofs.Crossing.{row_fits, none-given, row-given}
use Rattle.planes.proofs.cells.give_rows.Goals as goal

pub loop-i-init : goal.loop-i-init
loop-i-init c = none-given _ _ _

pub loop-i-preserved : goal.loop-i-preserved
loop-i-preserved c =
    let loop = c.loop-i in
    let args = c.args in
    let s = c.requires in
    let f = row_fits args.n loop.i (omega arith) s.few in
    let from = loop.i * args.n in
    let part = mid_len from (from + args.n) loop.cells (omega arith) in
    row-given args.n args.planes.now args.cells.now loop.cells s.few s.size loop.i (omega arith)
    (from + args.n - from) _ _ c.give_row.new.cells (omega arith) (c.block_at.ensures ∙ loaded-there _ _ (omega arith))
    (omega arith) c.give_row.ensures loop.invariant

pub returns : goal.returns
returns c =
    let loop = c.loop-i in
    let args = c.args in
    let s = c.requires in
    let all : loop.i ≡ args.n = omega arith in
    loop.invariant ∙ ap (λ (k : ℕ). laid (k * args.n) (planes_matrix args.n args.planes.now) args.cells.now) all
    ∙ laid_all (args.n * args.n) (planes_matrix args.n args.planes.now) args.cells.now (length-grid args.n _) s.size
