-- The invariant of the loop of `filing::pack_rows`: the entries before `at` are packed, the others are as they were.
use Rattle.filing.proofs.Packing.{Packed}
use Rattle.filing.proofs.pack_rows.Given as goal

abbrev pub invariant-loop-at : goal.invariant-loop-at
invariant-loop-at g l = Packed l.padding l.n l.initial.entries l.entries l.at
