-- `turning::some_rounds` meets its contract. The loop's invariant: the rounds from the matrix have come to the one whose planes `new`
-- holds, and the live regions are those that the next round has to go through.
use mathlib.Core.Path.{◌≡◌}
use lib.ListN.{length}
use Rattle.network.proofs.InPlanes.{Loop}
use Rattle.network.proofs.turning.some_rounds.Given as goal

abbrev pub invariant-loop-count : goal.invariant-loop-count
invariant-loop-count l =
    Loop l.n l.most l.cells l.old l.new (length l.initial.onward) l.live l.count × (length l.onward ≡ length l.initial.onward)
