-- `preparing::emptied_region` meets its contract. The loop's invariant: no region below i is left empty.
use native.Mathlib.Omega.{arith}
use Rattle.lists.proofs.LeastLaws.{least-here, least_gone, below_next}
use Rattle.refinement.specs.Node.{empty_region}
use Rattle.network.proofs.Searches.{found_at, found_past}
use Rattle.network.proofs.Prepared.{node_test}
use Rattle.network.proofs.preparing.emptied_region.Goals as goal

pub returns-then-is_empty : goal.returns-then-is_empty
unfolding empty_region
returns-then-is_empty c =
    found_at _ _ _
    (least-here _ _ _ (omega arith) c.loop-i.invariant
    (node_test _ _ _ _ _ _ (omega arith) c.node_cell.ensures c.is_empty.ensures c.if-is_empty.true)) (omega arith)

pub loop-i-preserved : goal.loop-i-preserved
loop-i-preserved c =
    below_next _ _ c.loop-i.invariant
    (node_test _ _ _ _ _ _ (omega arith) c.node_cell.ensures c.is_empty.ensures c.if-is_empty.false)

pub returns : goal.returns
unfolding empty_region
returns c = let gone = least_gone c.args.cells.now.n _ c.loop-i.i (omega arith) c.loop-i.invariant in found_past _ _ (omega (arith, gone))
