-- `round::through::through` meets its contract. The loop's invariant: through the places that are left comes what comes through ks.
use mathlib.Core.Path.{◌≡◌}
use Rattle.lanes.specs.Going.{places_left}
use Rattle.lanes.specs.Places.{in_turn, visited}
use Rattle.round.proofs.Going.{Among, narrowing}
use Rattle.round.proofs.through.through.Given as goal

abbrev pub invariant-loop-k : goal.invariant-loop-k
invariant-loop-k l = record {
  among : Among l.ks (places_left l.k-iterator);
  comes : in_turn (narrowing l.w l.onward) l.all (places_left l.k-iterator) ≡ visited (narrowing l.w l.onward) l.w l.ks;
}
