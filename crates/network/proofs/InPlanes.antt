-- Where the loop of the rounds in planes stands before a turn, and what a turn makes of it.
use mathlib.Core.Path.{◌≡◌, sym, ap, ap₂, ◌∙◌, subst}
use mathlib.Core.List.{List}
use Prim.Native.Nat.{ℕ, ◌+◌, ◌*◌, ◌≤◌, ◌<◌}
use native.Mathlib.Numerals.{add-one}
use lib.ListN.{length}
use Rattle.std.specs.Prelude.{Result, Ok, Err}
use Rattle.answer.specs.Answer.{answer}
use Rattle.answer.specs.Ending.{accepted, refused}
use Rattle.relation.specs.Sets.{has}
use Rattle.region.specs.Lookup.{place}
use Rattle.matrix.specs.Square.{Square}
use Rattle.round.specs.declared.rounds.Emptied.{Emptied}
use Rattle.planes.specs.Planes.{matrix_planes, planes_matrix, lane_cell}
use Rattle.planes.specs.Calls.{taken}
use Rattle.round.specs.Calls.{Rounds}
use Rattle.planes.proofs.Blocks.{length_planes}
use Rattle.refinement.specs.declared.Step.{Step}
use Rattle.refinement.specs.declared.Step.TheVariants.{Empty, Same, Changed}
use Rattle.refinement.specs.Round.{round, ran_out}
use Rattle.refinement.specs.Step.{step_of}
use Rattle.refinement.specs.Refine.{rounds}
use Rattle.refinement.specs.Plain.{Bytes}
use Rattle.refinement.specs.Run.{after_rounds}
use Rattle.refinement.proofs.Stages.{length-round}
use Rattle.refinement.proofs.RanOut.{ran_out_below}
use Rattle.refinement.proofs.PlainTest.{plain_tested}
use Rattle.refinement.proofs.Loop.{Reached, reached_start, Says, step_says, reached_all, after_next}
use Rattle.round.proofs.Live.{LiveRounds}
use Rattle.round.proofs.SameRound.{all_live, planes_back}
use Rattle.round.proofs.Steps.{takes, PlanesStep, round_steps}
use Rattle.network.specs.Inner.{Room, Startable, HeldBefore, EndsEmpty, EndsUsedUp}

-- the rounds from m have come to the matrix whose planes `new` holds, through `old` those of the one before, and the regions that are live
-- are those that the next round has to go through
pub record Loop (n most : ℕ) (m old new : List ℕ) (onward live count : ℕ) : Type 0 where
  pub room : Room n (length old) (length new) onward
  pub square : Square n (after_rounds count n m)
  pub reached : Reached n most m (after_rounds count n m) count
  pub settled : LiveRounds n (after_rounds count n m) (has live)
  pub planes : new ≡ matrix_planes n (after_rounds count n m)
  pub before : HeldBefore n count m old

-- planes that hold a matrix hold it
back : (n : ℕ) (m planes : List ℕ) → Square n m → Bytes n m → planes ≡ matrix_planes n m → planes_matrix n planes ≡ m
back n m planes square B e = ap (planes_matrix n) e ∙ planes_back n m square.few B square.size

pub loop_starts : (n most : ℕ) (m old new new' : List ℕ) (onward : ℕ) → Startable n m → Room n (length old) (length new) onward
    → new' ≡ taken n m new → Loop n most m old new' onward 18446744073709551615 0
unfolding after_rounds
loop_starts n most m old new new' onward start room e =
    let planes : new' ≡ matrix_planes n m = e ∙ takes start.square new room.for_new in
    record {
      room = record { for_old = room.for_old; for_new = ap length planes ∙ length_planes n (lane_cell 64 n m); for_rows = room.for_rows };
      square = start.square;
      reached = reached_start n most m start.square.size;
      settled = all_live n m start.square.few (plain_tested n m start.plain);
      planes = planes;
      before = tt;
    }

module _ {n most : ℕ} {m old new : List ℕ} {onward live count : ℕ} (now : Loop n most m old new onward live count) where
  abbrev current : List ℕ
  current = after_rounds count n m

  -- the rounds are used up
  pub loop_used_up : most ≤ count → EndsUsedUp n most m old new count
  loop_used_up h = record {
    ending = reached_all now.reached h;
    last = back n current new now.square now.settled.plain.bytes now.planes;
    before = now.before;
  }

  -- a turn: the planes are kept in `old`, and the round is made from there
  module _ (few : count < most) {old' : List ℕ} (kept : old' ≡ new) where
    held : old' ≡ matrix_planes n (after_rounds count n m)
    held = kept ∙ now.planes

    says : (s : Step) → step_of n (after_rounds count n m) ≡ s → Says n most m (after_rounds count n m) count s
    says s e = subst (Says n most m current count) e (step_says n most m current count now.reached few)

    there : planes_matrix n old' ≡ after_rounds count n m
    there = back n current old' now.square now.settled.plain.bytes held

    module _ {words new' words' : List ℕ} (long : length words ≡ onward) where
      step : {came : Result ℕ Emptied} → Rounds n live old' new words new' words' came → PlanesStep n (after_rounds count n m) new' came
      step made =
          round_steps now.square now.settled held now.room.for_new
          (subst (λ (x : ℕ). 64 * n ≤ x) (sym long) now.room.for_rows) made

      -- a set ran empty
      pub loop_empties : {at : Emptied} → Rounds n live old' new words new' words' (Err at) → EndsEmpty n most m old' at.row at.column (count + 1)
      loop_empties {at} made =
          let empty = step made in
          record {
            row_lt = empty.row_lt;
            column_lt = empty.column_lt;
            runs_out = subst (λ (x : List ℕ). ran_out n x at.row at.column < n) (sym there)
                (ran_out_below n current now.settled.plain at.row at.column (place (ran_out n current at.row at.column)) empty.empty);
            ending = says (Empty (place at.row) (place (ran_out n current at.row at.column)) (place at.column)) empty.empty
                ∙ ap₂ (λ (x : List ℕ) (c : ℕ). refused (answer 23 at.row (ran_out n x at.row at.column) at.column c))
                (sym there) (sym (add-one count));
          }

      -- nothing changed
      pub loop_rests : {changed : ℕ} → Rounds n live old' new words new' words' (Ok changed) → changed ≡ 0 → rounds most n 0 m ≡ accepted (planes_matrix n old') count
      loop_rests made e = (says Same ((step made).same e)).ending ∙ ap (λ (x : List ℕ). accepted x count) (sym there)

      -- something changed: the regions whose column did are live
      pub loop_goes_on : {changed : ℕ} → Rounds n live old' new words new' words' (Ok changed) → (changed ≡ 0 → ⊥)
          → Loop n most m old' new' onward changed (count + 1)
      loop_goes_on {changed} made d =
          let full = step made in
          let next : round n current ≡ after_rounds (count + 1) n m =
          sym (after_next count n m) ∙ ap (λ (c : ℕ). after_rounds c n m) (sym (add-one count)) in
          record {
            room = record {
              for_old = ap length kept ∙ now.room.for_new;
              for_new = ap length full.made ∙ length_planes n (lane_cell 64 n (round n current));
              for_rows = now.room.for_rows;
            };
            square = subst (Square n) next (record { some = now.square.some; few = now.square.few; size = length-round n current });
            reached = subst (λ (x : List ℕ). Reached n most m x (count + 1)) next (says Changed (full.changed d));
            settled = subst (λ (x : List ℕ). LiveRounds n x (has changed)) next full.next;
            planes = full.made ∙ ap (matrix_planes n) next;
            before = subst (λ (c : ℕ). HeldBefore n c m old') (sym (add-one count)) there;
          }
