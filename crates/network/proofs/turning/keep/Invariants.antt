-- `turning::keep` meets its contract. The loop's invariant: the words before the place are those of `new`.
use Rattle.lists.proofs.Filling.{Filling}
use Rattle.network.proofs.turning.keep.Given as goal

abbrev pub invariant-loop-place : goal.invariant-loop-place
invariant-loop-place l = Filling l.new l.initial.old l.old l.place
