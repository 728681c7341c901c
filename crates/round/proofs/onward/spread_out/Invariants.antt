-- `round::onward::spread_out` meets its contract. The loop's invariant: through the places that are left comes what comes of all live regions.
use mathlib.Core.Path.{◌≡◌}
use Rattle.lanes.specs.Going.{places_left}
use Rattle.lanes.specs.Places.{in_turn, visited}
use Rattle.round.proofs.Going.{Among, readying}
use Rattle.round.proofs.onward.spread_out.Given as goal

abbrev pub invariant-loop-k : goal.invariant-loop-k
invariant-loop-k l = record {
  among : Among l.live (places_left l.k-iterator);
  comes : in_turn (readying l.old) l.onward (places_left l.k-iterator) ≡ visited (readying l.old) l.initial.onward l.live;
}
