-- `preparing::arc_stage` meets its contract. The loop's invariant: the cells before the place are those of the arc stage.
use Rattle.refinement.specs.Prepare.{prepared}
use Rattle.lists.proofs.Filling.{Filling}
use Rattle.network.proofs.preparing.arc_stage.Given as goal

abbrev pub invariant-loop-place : goal.invariant-loop-place
invariant-loop-place l = Filling (prepared l.cells.n l.cells.cells.now) l.initial.area l.area l.place
