-- `round::rounds::make_blocks` meets its contract. The loop's invariant is `Turning`: the blocks before b are made, and none has an empty set.
use Rattle.round.proofs.Turning.{Turning}
use Rattle.round.proofs.rounds.make_blocks.Given as goal

abbrev pub invariant-loop-row : goal.invariant-loop-row
invariant-loop-row l = Turning l.n l.live l.old l.initial.new l.new l.changed l.row
