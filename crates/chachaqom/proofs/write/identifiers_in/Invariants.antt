-- The loop's invariant: the identifiers before the place are those of the bytes.
use Rattle.std.proofs.Common.{length}
use Rattle.lists.proofs.Filling.{Filling}
use Rattle.lists.specs.BigEndian.{numbers_in}
use Rattle.chachaqom.proofs.write.identifiers_in.Given as goal

abbrev pub invariant-loop-place : goal.invariant-loop-place
invariant-loop-place l = Filling (numbers_in (length l.initial.identifiers) l.bytes) l.initial.identifiers l.identifiers l.place
