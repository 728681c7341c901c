-- `round::onward::put_onward` meets its contract. The loop's invariant: the words of the relations below p are laid.
use Rattle.round.specs.Inner.{Wired}
use Rattle.round.proofs.onward.put_onward.Given as goal

abbrev pub invariant-loop-p : goal.invariant-loop-p
invariant-loop-p l = Wired l.b l.onward l.p
