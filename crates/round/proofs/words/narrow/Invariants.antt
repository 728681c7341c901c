-- `round::words::narrow` meets its contract. The loop's invariant: one is gathered from the relations below p.
use mathlib.Core.Path.{◌≡◌}
use Rattle.round.proofs.Narrowing.{gathered}
use Rattle.round.proofs.words.narrow.Given as goal

abbrev pub invariant-loop-p : goal.invariant-loop-p
invariant-loop-p l = l.one ≡ gathered l.a l.onward l.p
