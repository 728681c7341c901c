-- `round::through::through` meets its contract. The loop's invariant: through the places that are left comes what comes through ks.
use Prim.Native.Nat.{◌+◌, ◌*◌, ◌-◌}
use mathlib.Core.Path.{◌≡◌, ◌∙◌}
use native.Mathlib.Omega.{arith}
use Rattle.lanes.specs.Going.{places_left}
use Rattle.lanes.specs.Places.{places}
use Rattle.round.specs.Inner.{block_through}
use Rattle.round.proofs.Going.{among_start, among_next, at_place, turn_starts, turn_goes, turn_ends, narrowing, through_one}
use Rattle.std.proofs.Common.{rules}
use Rattle.round.proofs.through.through.Goals as goal

pub loop-k-init : goal.loop-k-init
loop-k-init c =
    let all : places_left c.into_iter-k-iterator.result ≡ places c.args.ks = search rules in
    record { among = among_start _ _ all; comes = turn_starts (narrowing c.args.w c.args.onward.now) c.args.w _ _ all }

pub everywhere-requires : goal.everywhere-requires
everywhere-requires c = let at = at_place c.requires c.loop-k.invariant.among c.in-Some.ensures.steps in omega arith

pub overflow_mul-k : goal.overflow_mul-k
overflow_mul-k c = let at = at_place c.requires c.loop-k.invariant.among c.in-Some.ensures.steps in omega arith

pub overflow_mul-k-in-loop-k : goal.overflow_mul-k-in-loop-k
overflow_mul-k-in-loop-k c = let at = at_place c.requires c.loop-k.invariant.among c.in-Some.ensures.steps in omega arith

pub overflow_add-k : goal.overflow_add-k
overflow_add-k c = let at = at_place c.requires c.loop-k.invariant.among c.in-Some.ensures.steps in omega arith

pub offset_bounds-onward-k : goal.offset_bounds-onward-k
offset_bounds-onward-k c = let at = at_place c.requires c.loop-k.invariant.among c.in-Some.ensures.steps in omega arith

pub slice_bounds-narrow-end : goal.slice_bounds-narrow-end
slice_bounds-narrow-end c = let at = at_place c.requires c.loop-k.invariant.among c.in-Some.ensures.steps in omega arith

pub loop-k-preserved : goal.loop-k-preserved
loop-k-preserved c =
    let loop = c.loop-k in
    let step = c.in-Some.ensures.steps in
    let k = c.in-Some.k in
    let at = at_place c.requires loop.invariant.among step in
    record {
      among = (among_next _ _ _ _ step loop.invariant.among).2;
      comes = turn_goes (narrowing c.args.w c.args.onward.now) loop.all _ k _ _ step
          (through_one c.args.w c.args.onward.now loop.all _ _ k (64 * k + 64 - 64 * k) c.everywhere.ensures (omega arith) c.narrow-next.ensures)
          ∙ loop.invariant.comes;
    }

pub returns : goal.returns
unfolding block_through
returns c = turn_ends (narrowing c.args.w c.args.onward.now) c.loop-k.all _ c.in-None.ensures.steps.0 ∙ c.loop-k.invariant.comes
