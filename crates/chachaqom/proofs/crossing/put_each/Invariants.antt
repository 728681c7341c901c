-- The loop's invariant: the first `place` numbers stand in front of the bytes.
use Rattle.chachaqom.proofs.Crossed.{Crossed}
use Rattle.chachaqom.proofs.crossing.put_each.Given as goal

abbrev pub invariant-loop-place : goal.invariant-loop-place
invariant-loop-place g l = Crossed g.N.Crossing.bytes_of g.N.Crossing.width l.numbers l.place l.bytes
