-- `preparing::emptied_region` meets its contract. The loop's invariant: no region below i is left empty.
use mathlib.Core.Path.{◌≡◌}
use mathlib.Core.Bool.{false}
use Prim.Native.Nat.{ℕ, ◌<◌}
use lib.Dec.{eqb}
use Rattle.matrix.specs.Cells.{cell}
use Rattle.refinement.specs.Node.{node}
use Rattle.network.proofs.preparing.emptied_region.Given as goal

abbrev pub invariant-loop-i : goal.invariant-loop-i
invariant-loop-i l = (k : ℕ) → k < l.i → eqb (cell l.cells.n (node l.cells.n l.cells.cells.now) k k) 0 ≡ false
