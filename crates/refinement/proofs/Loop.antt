-- Where a loop over the rounds stands, and what each step makes of it.
use mathlib.Core.Path.{◌≡◌, refl, sym, ap, ◌∙◌}
use mathlib.Core.List.{List}
use Prim.Native.Nat.{ℕ, zero, suc, ◌+◌, ◌-◌, ◌*◌, ◌≤◌, ◌<◌}
use native.Mathlib.Omega.{arith}
use lib.ListN.{length}
use Rattle.answer.specs.Answer.{answer}
use Rattle.answer.specs.Ending.{accepted, refused}
use Rattle.matrix.proofs.CellLaws.{ext_cell}
use Rattle.refinement.specs.declared.Step.{Step}
use Rattle.refinement.specs.declared.Step.TheVariants.{Empty, Same, Changed}
use Rattle.refinement.specs.Round.{round}
use Rattle.refinement.specs.Step.{step_of}
use Rattle.refinement.specs.Refine.{stepped, rounds}
use Rattle.refinement.specs.Run.{after_rounds}
use Rattle.refinement.specs.Plain.{Plain}
use Rattle.refinement.proofs.Stages.{length-round, round-plain, round-below}
use Rattle.refinement.proofs.Slack.{slack, slack_falls}
use Rattle.refinement.proofs.Stepping.{Moves, by_step}

-- ---- a round that changes something

-- it leaves a matrix from which the next can start, with less to lose
pub record Falls (n : ℕ) (old : List ℕ) : Type 0 where
  pub plain : Plain n (round n old)
  pub less : slack n (round n old) < slack n old

pub moves_falls : (n : ℕ) (old : List ℕ) → Plain n old → Moves n old → Falls n old
moves_falls n old P m =
    let Q : Plain n (round n old) = round-plain n old P m.full in
    record { plain = Q; less = slack_falls n (round n old) old Q P (round-below n old P) m.change }

-- ---- the loop

-- of `more` rounds from `start` so many are made, each of which changed something, and they have come to `old`
pub record Reached (n more : ℕ) (start old : List ℕ) (count : ℕ) : Type 0 where
  pub size : length old ≡ n * n
  pub made : old ≡ after_rounds count n start
  pub few : count ≤ more
  pub same : rounds more n 0 start ≡ rounds (more - count) n count old

pub reached_start : (n more : ℕ) (start : List ℕ) → length start ≡ n * n → Reached n more start start 0
unfolding after_rounds
reached_start n more start l =
    record { size = l; made = refl; few = omega arith; same = ap (λ (f : ℕ). rounds f n 0 start) (omega arith) }

-- nothing changed: the rounds end, and the round is what it was made from
pub record Ended (n more : ℕ) (start old : List ℕ) (count : ℕ) : Type 0 where
  pub ending : rounds more n 0 start ≡ accepted old count
  pub kept : round n old ≡ old

-- what a step says of the rounds from the start
abbrev pub Says : (n more : ℕ) (start old : List ℕ) (count : ℕ) → Step → Type 0
Says n more start old count (Empty i k j) = rounds more n 0 start ≡ refused (answer 23 i.0 k.0 j.0 (suc count))
Says n more start old count Same = Ended n more start old count
Says n more start old count Changed = Reached n more start (round n old) (count + 1)

-- one round more is a round of what the others made
pub after_next : (count n : ℕ) (m : List ℕ) → after_rounds (suc count) n m ≡ round n (after_rounds count n m)
unfolding after_rounds
after_next zero n m = refl
after_next (suc count) n m = after_next count n (round n m)

pub step_says : (n more : ℕ) (start old : List ℕ) (count : ℕ) → Reached n more start old count → count < more
    → Says n more start old count (step_of n old)
unfolding rounds
step_says n more start old count R h =
    let left : ℕ = more - (count + 1) in
    let one_more : more - count ≡ suc left = omega arith in
    let next : suc count ≡ count + 1 = omega arith in
    by_step
    (λ (s : Step).
    rounds more n 0 start ≡ stepped s count old (λ _. rounds left n (suc count) (round n old)) → Says n more start old count s)
    n old
    (λ i j e q. q)
    (λ r q. record { ending = q; kept = ext_cell n (round n old) old (length-round n old) R.size r.same })
    (λ m q. record {
      size = length-round n old;
      made = ap (round n) R.made ∙ sym (after_next count n start) ∙ ap (λ (c : ℕ). after_rounds c n start) next;
      few = omega arith;
      same = q ∙ ap (λ (c : ℕ). rounds left n c (round n old)) next;
    })
    (R.same ∙ ap (λ (f : ℕ). rounds f n count old) one_more)

-- as many rounds as may be made are used up
pub reached_all : {n more : ℕ} {start old : List ℕ} {count : ℕ} → Reached n more start old count → more ≤ count
    → rounds more n 0 start ≡ refused (answer 24 0 0 0 count)
unfolding rounds
reached_all {n} {more} {start} {old} {count} R h =
    let none : more - count ≡ 0 = omega (arith, R.few) in R.same ∙ ap (λ (f : ℕ). rounds f n count old) none
