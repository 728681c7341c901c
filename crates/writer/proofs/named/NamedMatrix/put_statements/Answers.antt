-- `writer::named::NamedMatrix::put_statements` meets its contract.
use mathlib.Core.Path.{refl, ap, ◌∙◌}
use native.Mathlib.Omega.{arith}
use lib.ListN.{length}
use Rattle.std.proofs.Common.{rules}
use Rattle.writer.proofs.PutLaws.{none_put, universal_put, stated_put, statement_room}
use Rattle.writer.proofs.named.NamedMatrix.put_statements.Goals as goal
use Rattle.writer.proofs.named.NamedMatrix.put_statements.Goals.{then-set, else-set}

pub loop-cell-init : goal.loop-cell-init
loop-cell-init c = (refl, none_put _ _ _ _ _)

pub put_statement-requires : goal.put_statement-requires
put_statement-requires c =
    omega (
      arith,
      c.loop-cell.invariant.0,
      c.loop-cell.invariant.1.end,
      statement_room _ _ _ c.args.self.now.sized c.loop-cell.cell (omega arith) c.if-set.true,
    )

pub overflow_add-at : goal.overflow_add-at
overflow_add-at c =
    omega (
      arith,
      c.loop-cell.invariant.0,
      c.loop-cell.invariant.1.end,
      statement_room _ _ _ c.args.self.now.sized c.loop-cell.cell (omega arith) c.if-set.true,
    )

pub loop-cell-preserved : goal.loop-cell-preserved
loop-cell-preserved c =
    let inv = c.loop-cell.invariant in
    let self = c.args.self.now in
    let next = stated_put self.n self.identifiers.now self.cells.now c.args.buffer.now c.args.start c.loop-cell.cell in
    let same = universal_put self.n self.identifiers.now self.cells.now c.args.buffer.now c.args.start c.loop-cell.cell in
    elim c.if-set.branch [
      | then-set w ↦ (
        ap length w.buffer-is ∙ w.put_statement.auto.buffer ∙ inv.0,
        rw (w.buffer-is, w.at-is)
            (next _ _ _ _ _ w.if-set.true inv.1 (search rules) (search rules) w.put_statement.ensures),
      )
      | else-set w ↦ (ap length w.buffer-is ∙ inv.0, rw (w.buffer-is, w.at-is) (same _ _ w.if-set.false inv.1))
    ]
