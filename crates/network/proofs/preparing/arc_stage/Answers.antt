-- `preparing::arc_stage` meets its contract. The loop's invariant: the cells before the place are those of the arc stage.
use mathlib.Core.Path.{◌≡◌, sym, ◌∙◌}
use Prim.Native.Nat.{ℕ}
use native.Mathlib.Omega.{arith}
use lib.ListN.{length}
use Rattle.refinement.specs.Node.{node}
use Rattle.refinement.specs.Prepare.{prepared}
use Rattle.lists.proofs.Filling.{filling_begins, filling_more, filling_ends}
use Rattle.refinement.proofs.Stages.{length-arc}
use Rattle.network.proofs.Prepared.{prepared_at}
use Rattle.std.proofs.Common.{List}
use Rattle.matrix.specs.Square.{Square}
use Rattle.network.proofs.preparing.arc_stage.Goals as goal

-- the cells of the arc stage are as many as the area has
fits : {n : ℕ} {area : List ℕ} (cells : List ℕ) → Square n area → length (prepared n cells) ≡ length area
fits {n} cells s = length-arc n (node n cells) ∙ sym s.size

pub loop-place-init : goal.loop-place-init
loop-place-init c = filling_begins _ _

pub loop-place-preserved : goal.loop-place-preserved
loop-place-preserved c =
    filling_more _ _ _ _ (fits _ c.requires) c.loop-place.invariant _ (omega arith)
    (prepared_at c.args.cells.now.n c.args.cells.now.cells.now c.loop-place.place _ (omega arith) c.arc_cell.ensures)

pub returns : goal.returns
returns c = filling_ends _ _ _ _ (fits _ c.requires) c.loop-place.invariant (omega arith)
