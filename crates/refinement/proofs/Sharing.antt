-- However rounds are shared out over runs, they come to what they come to in one: verdict, counts added up, and network.
use mathlib.Core.Path.{◌≡◌, refl, sym, ap, ◌∙◌, subst}
use mathlib.Core.Bool.{Bool, true, false, not, true≢false}
use mathlib.Core.List.{List, [], ◌∷◌}
use Prim.Native.Nat.{ℕ, zero, suc, ◌+◌, ◌*◌, ◌≤◌, ◌<◌}
use native.Mathlib.Nat.{zero-add, add-zero, add_assoc}
use native.Mathlib.Omega.{arith}
use lib.ListN.{length}
use Rattle.lists.proofs.Splits.{by_test}
use Rattle.answer.specs.Answer.{answer}
use Rattle.answer.specs.Ending.{Ending, accepted, refused, stop}
use Rattle.answer.proofs.Stops.{stop-same}
use Rattle.refinement.specs.declared.Step.{Step}
use Rattle.refinement.specs.declared.Step.TheVariants.{Empty, Same, Changed}
use Rattle.refinement.specs.Round.{round}
use Rattle.refinement.specs.Step.{step_of}
use Rattle.refinement.specs.Plain.{Plain}
use Rattle.refinement.specs.Refine.{most_rounds, rounds, stepped, all_rounds}
use Rattle.refinement.specs.Run.{after_rounds, is_used_up, later, runs, total, EachSome}
use Rattle.refinement.proofs.Stages.{length-round}
use Rattle.refinement.proofs.Slack.{slack, slack_most}
use Rattle.refinement.proofs.Stepping.{by_step}
use Rattle.refinement.proofs.Loop.{moves_falls}
use Rattle.refinement.proofs.Ending.{all_rounds_any}

-- ---- counts

later-later : {X : Type 0} (a b : ℕ) (e : Ending X) → later a (later b e) ≡ later (a + b) e
later-later a b (accepted given count) = ap (accepted given) (sym (add_assoc a b count))
later-later a b (refused x) =
    ap (λ (c : ℕ). refused (answer x.number x.first x.second x.third c)) (sym (add_assoc a b x.count))

-- rounds that begin at a count come to what they come to from 0, with that count added
pub rounds-later : (more n count : ℕ) (m : List ℕ) → rounds more n count m ≡ later count (rounds more n 0 m)
unfolding rounds
rounds-later zero n count m = ap (λ (c : ℕ). refused (answer 24 0 0 0 c)) (sym (add-zero count))
rounds-later (suc more) n count m = go (step_of n m) (λ c. rounds-later more n c (round n m))
  where
    go : (s : Step) → ((c : ℕ) → rounds more n c (round n m) ≡ later c (rounds more n 0 (round n m)))
        → stepped s count m (λ _. rounds more n (suc count) (round n m)) ≡ later count (stepped s 0 m (λ _. rounds more n 1 (round n m)))
    go (Empty i k j) rest = ap (λ (c : ℕ). refused (answer 23 i.0 k.0 j.0 c)) (omega arith)
    go Same rest = ap (accepted m) (sym (add-zero count))
    go Changed rest =
        rest (suc count)
        ∙ ap (λ (c : ℕ). later c (rounds more n 0 (round n m))) (omega arith)
        ∙ sym (later-later count 1 (rounds more n 0 (round n m)))
        ∙ ap (later count) (sym (rest 1))

-- ---- one run and the next

later_used_up : {X : Type 0} (a : ℕ) (e : Ending X) → is_used_up (later a e) ≡ is_used_up e
later_used_up a (accepted given count) = refl
later_used_up a (refused x) = refl

-- where the first rounds are used up the others go on from what they made, and else they end it
pub rounds_more : (more others n : ℕ) (m : List ℕ)
    → rounds (more + others) n 0 m
    ≡ stop (not (is_used_up (rounds more n 0 m))) (rounds more n 0 m) (λ _. later more (rounds others n 0 (after_rounds more n m)))
unfolding rounds after_rounds
rounds_more zero others n m = ap (λ (k : ℕ). rounds k n 0 m) (zero-add others) ∙ zero_later (rounds others n 0 m)
  where
    zero_later : (e : Ending (List ℕ)) → e ≡ later 0 e
    zero_later (accepted given count) = ap (accepted given) (sym (zero-add count))
    zero_later (refused x) =
        ap (λ (c : ℕ). refused (answer x.number x.first x.second x.third c)) (sym (zero-add x.count))
rounds_more (suc more) others n m =
    let one_more : suc more + others ≡ suc (more + others) = omega arith in
    ap (λ (k : ℕ). rounds k n 0 m) one_more ∙ go (step_of n m) (rounds_more more others n (round n m))
  where
    new : List ℕ
    new = round n m

    last : Ending (List ℕ)
    last = rounds others n 0 (after_rounds more n new)

    moved : (b : Bool) (e : Ending (List ℕ)) → is_used_up e ≡ b
        → later 1 (stop (not b) e (λ _. later more last)) ≡ stop (not b) (later 1 e) (λ _. later (suc more) last)
    moved true e u = later-later 1 more last ∙ ap (λ (c : ℕ). later c last) (omega arith)
    moved false e u = refl

    go : (s : Step)
        → rounds (more + others) n 0 new ≡ stop (not (is_used_up (rounds more n 0 new))) (rounds more n 0 new) (λ _. later more last)
        → stepped s 0 m (λ _. rounds (more + others) n 1 new)
        ≡ stop (not (is_used_up (stepped s 0 m (λ _. rounds more n 1 new)))) (stepped s 0 m (λ _. rounds more n 1 new))
        (λ _. later (suc more) last)
    go (Empty i k j) rest = refl
    go Same rest = refl
    go Changed rest =
        rounds-later (more + others) n 1 new
        ∙ ap (later 1) rest
        ∙ moved (is_used_up (rounds more n 0 new)) (rounds more n 0 new) refl
        ∙ rw (rounds-later more n 1 new, later_used_up 1 (rounds more n 0 new))

pub after_more : (more others n : ℕ) (m : List ℕ) → after_rounds (more + others) n m ≡ after_rounds others n (after_rounds more n m)
unfolding after_rounds
after_more zero others n m = ap (λ (k : ℕ). after_rounds k n m) (zero-add others)
after_more (suc more) others n m =
    let one_more : suc more + others ≡ suc (more + others) = omega arith in
    ap (λ (k : ℕ). after_rounds k n m) one_more ∙ after_more more others n (round n m)

pub length_after : (count n : ℕ) (m : List ℕ) → length m ≡ n * n → length (after_rounds count n m) ≡ n * n
unfolding after_rounds
length_after zero n m l = l
length_after (suc count) n m l = length_after count n (round n m) (length-round n m)

-- ---- all runs

-- however the rounds are shared out, they come to what they come to in one run
pub shared_out : (shares : List ℕ) (n : ℕ) (m : List ℕ) → runs shares n m ≡ rounds (total shares) n 0 m
unfolding runs total rounds
shared_out [] n m = refl
shared_out (more ∷ others) n m =
    stop-same (not (is_used_up (rounds more n 0 m))) (rounds more n 0 m) _ _
    (λ e. ap (later more) (shared_out others n (after_rounds more n m)))
    ∙ sym (rounds_more more (total others) n m)

-- and where they are more than can change something, that is what all rounds come to
pub shared_out_whole : (shares : List ℕ) (n : ℕ) (m : List ℕ) → Plain n m → most_rounds n < total shares
    → runs shares n m ≡ all_rounds n m
shared_out_whole shares n m P h = shared_out shares n m ∙ all_rounds_any n (total shares) m P h

-- ---- rounds that are used up

-- the rounds changed something each time: the next run can start from what they made, and that has so much less to lose
pub record Continues (n more : ℕ) (m : List ℕ) : Type 0 where
  pub ending : rounds more n 0 m ≡ refused (answer 24 0 0 0 more)
  pub size : length (after_rounds more n m) ≡ n * n
  pub plain : Plain n (after_rounds more n m)
  pub less : more + slack n (after_rounds more n m) ≤ slack n m

pub used_up_continues : (more n : ℕ) (m : List ℕ) → length m ≡ n * n → Plain n m → is_used_up (rounds more n 0 m) ≡ true → Continues n more m
unfolding rounds after_rounds
used_up_continues zero n m l P e = record { ending = refl; size = l; plain = P; less = omega arith }
used_up_continues (suc more) n m l P e =
    by_step
    (λ (s : Step).
    is_used_up (stepped s 0 m (λ _. rounds more n 1 (round n m))) ≡ true
    → (Continues n more (round n m) → slack n (round n m) < slack n m
    → stepped s 0 m (λ _. rounds more n 1 (round n m)) ≡ rounds more n 1 (round n m) → Continues n (suc more) m)
    → (is_used_up (rounds more n 0 (round n m)) ≡ true → Plain n (round n m) → Continues n more (round n m))
    → Continues n (suc more) m)
    n m
    (λ i j r u f g. absurd (true≢false (sym u)))
    (λ r u f g. absurd (true≢false (sym u)))
    (λ c u f g.
    let w = moves_falls n m P c in
    f (g (sym (ap is_used_up (rounds-later more n 1 (round n m)) ∙ later_used_up 1 (rounds more n 0 (round n m))) ∙ u) w.plain)
    w.less refl)
    e
    (λ c h q. record {
      ending = q ∙ rounds-later more n 1 (round n m) ∙ ap (later 1) c.ending
          ∙ ap (λ (x : ℕ). refused (answer 24 0 0 0 x)) (omega arith);
      size = c.size;
      plain = c.plain;
      less = omega (arith, c.less);
    })
    (λ u Q. used_up_continues more n (round n m) (length-round n m) Q u)

-- rounds that are not used up come to what all rounds come to
pub unused_whole : (more n : ℕ) (m : List ℕ) → Plain n m → is_used_up (rounds more n 0 m) ≡ false → rounds more n 0 m ≡ all_rounds n m
unused_whole more n m P e =
    sym (rounds_more more (suc (most_rounds n)) n m ∙ rw e)
    ∙ all_rounds_any n (more + suc (most_rounds n)) m P (omega arith)

-- so more rounds than can change something are never used up
pub rounds_finish : (more n : ℕ) (m : List ℕ) → length m ≡ n * n → Plain n m → most_rounds n < more → is_used_up (rounds more n 0 m) ≡ false
rounds_finish more n m l P h =
    by_test (is_used_up (rounds more n 0 m))
    (λ e. absurd (omega (arith, (used_up_continues more n m l P e).less, slack_most n m)))
    (λ e. e)

-- runs with at least one round each are no more than their rounds
pub some-total : (shares : List ℕ) → EachSome shares → length shares ≤ total shares
unfolding total
some-total [] s = omega arith
some-total (more ∷ others) s = omega (arith, s.0, some-total others s.1)

-- ---- how rounds end

-- a network, a triple, or all rounds used up
pub data RoundsEnd (more : ℕ) : Ending (List ℕ) → Type 0 where
  at_network : (network : List ℕ) (count : ℕ) → RoundsEnd more (accepted network count)
  at_triple : (i k j count : ℕ) → RoundsEnd more (refused (answer 23 i k j count))
  at_last : RoundsEnd more (refused (answer 24 0 0 0 more))

ended_from : (more n count : ℕ) (m : List ℕ) → RoundsEnd (count + more) (rounds more n count m)
unfolding rounds
ended_from zero n count m = subst (λ (k : ℕ). RoundsEnd k (refused (answer 24 0 0 0 count))) (sym (add-zero count)) at_last
ended_from (suc more) n count m = go (step_of n m) (ended_from more n (suc count) (round n m))
  where
    go : (s : Step) → RoundsEnd (suc count + more) (rounds more n (suc count) (round n m))
        → RoundsEnd (count + suc more) (stepped s count m (λ _. rounds more n (suc count) (round n m)))
    go (Empty i k j) rest = at_triple i.0 k.0 j.0 (suc count)
    go Same rest = at_network m count
    go Changed rest =
        let moved : suc count + more ≡ count + suc more = omega arith in
        subst (λ (k : ℕ). RoundsEnd k (rounds more n (suc count) (round n m))) moved rest

pub rounds_ended : (more n : ℕ) (m : List ℕ) → RoundsEnd more (rounds more n 0 m)
rounds_ended more n m = subst (λ (k : ℕ). RoundsEnd k (rounds more n 0 m)) (zero-add more) (ended_from more n 0 m)
