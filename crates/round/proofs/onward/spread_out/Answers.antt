-- `round::onward::spread_out` meets its contract. The loop's invariant: through the places that are left comes what comes of all live regions.
use Prim.Native.Nat.{◌+◌, ◌*◌, ◌-◌}
use mathlib.Core.Path.{◌≡◌, ◌∙◌}
use native.Mathlib.Omega.{arith}
use Rattle.lanes.specs.Going.{places_left}
use Rattle.lanes.specs.Places.{places}
use Rattle.planes.proofs.Laying.{loaded-there}
use Rattle.round.specs.Onward.{onward_of}
use Rattle.round.proofs.Going.{among_start, among_next, at_place, turn_starts, turn_goes, turn_ends, readying, onward_one}
use Rattle.std.proofs.Common.{rules}
use Rattle.round.proofs.onward.spread_out.Goals as goal

pub loop-k-init : goal.loop-k-init
loop-k-init c =
    let all : places_left c.into_iter-k-iterator.result ≡ places c.args.live = search rules in
    record { among = among_start _ _ all; comes = turn_starts (readying c.args.old.now) c.args.onward.now _ _ all }

pub overflow_mul-k : goal.overflow_mul-k
overflow_mul-k c = let at = at_place c.requires c.loop-k.invariant.among c.in-Some.ensures.steps in omega arith

pub overflow_mul-k-in-loop-k : goal.overflow_mul-k-in-loop-k
overflow_mul-k-in-loop-k c = let at = at_place c.requires c.loop-k.invariant.among c.in-Some.ensures.steps in omega arith

pub overflow_add-k : goal.overflow_add-k
overflow_add-k c = let at = at_place c.requires c.loop-k.invariant.among c.in-Some.ensures.steps in omega arith

pub offset_bounds-onward-k : goal.offset_bounds-onward-k
offset_bounds-onward-k c = let at = at_place c.requires c.loop-k.invariant.among c.in-Some.ensures.steps in omega arith

pub slice_bounds-put_onward-end : goal.slice_bounds-put_onward-end
slice_bounds-put_onward-end c = let at = at_place c.requires c.loop-k.invariant.among c.in-Some.ensures.steps in omega arith

pub loop-k-preserved : goal.loop-k-preserved
loop-k-preserved c =
    let loop = c.loop-k in
    let old = c.args.old.now in
    let step = c.in-Some.ensures.steps in
    let k = c.in-Some.k in
    let at = at_place c.requires loop.invariant.among step in
    record {
      among = (among_next _ _ _ _ step loop.invariant.among).2;
      comes = turn_goes (readying old) loop.onward _ k _ _ step
          (onward_one old loop.onward c.put_onward.new.onward _ k (64 * k + 64 - 64 * k) (c.block_at.ensures ∙ loaded-there _ _ at.row)
          c.put_onward.ensures (omega arith))
          ∙ loop.invariant.comes;
    }

pub returns : goal.returns
unfolding onward_of
returns c = turn_ends (readying c.args.old.now) c.loop-k.onward _ c.in-None.ensures.steps.0 ∙ c.loop-k.invariant.comes
