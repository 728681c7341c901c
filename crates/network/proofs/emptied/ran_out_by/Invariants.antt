-- `emptied::ran_out_by` meets its contract. The loop's invariant: the set is (i, j) intersected with the compositions through the places
-- below k, and it was not empty at any of them.
use Rattle.network.proofs.Running.{Running}
use Rattle.network.proofs.emptied.ran_out_by.Given as goal

abbrev pub invariant-loop-k : goal.invariant-loop-k
invariant-loop-k l = Running l.old.n l.old.cells.now l.i l.j l.k l.set.0
