-- A run after one whose rounds were used up: it can start, and both come to what one run with the rounds of both comes to.
use mathlib.Core.Path.{◌≡◌, refl, sym, ap, ◌∙◌}
use mathlib.Core.Bool.{Bool, true, false}
use mathlib.Core.List.{List}
use Prim.Native.Nat.{ℕ, zero, suc, ◌+◌, ◌*◌, ◌≤◌}
use native.Mathlib.Nat.{add-zero}
use native.Mathlib.Omega.{arith}
use lib.ListN.{length, take, replicate}
use lib.Seq.{take_all, length-take-le}
use Rattle.std.specs.Prelude.{Ok, Err}
use Rattle.lists.specs.Laid.{laid}
use Rattle.lists.proofs.LaidLaws.{length-laid, take-laid, laid-again}
use Rattle.answer.specs.Answer.{Answer, answer}
use Rattle.answer.specs.Ending.{Ending, refused}
use Rattle.refinement.specs.Refine.{rounds}
use Rattle.refinement.specs.Run.{is_used_up, later, after_rounds, ran}
use Rattle.refinement.proofs.Limits.{Runs, ran-rounds, by_ran}
use Rattle.refinement.proofs.PlainTest.{plain_tested, plain_passes}
use Rattle.refinement.proofs.Sharing.{RoundsEnd, at_network, at_triple, at_last, rounds_ended, rounds_more, after_more, length_after, Continues, used_up_continues}
use Rattle.network.specs.declared.Area.{Area}
use Rattle.network.specs.declared.Area.TheVariants.{First, Second}
use Rattle.refinement.specs.declared.Contradiction.TheVariants.{Region, Pair, Triple}
use Rattle.network.specs.Verdict.{Verdict}
use Rattle.network.specs.declared.Unrefined.TheVariants.{Refused, Unfinished, Unprepared, OutOfRange, WrongLength}
use Rattle.network.specs.Areas.{other, chosen, same_area, holds}
use Rattle.network.specs.Numbers.{area_number, answer_of}
use Rattle.network.specs.Ran.{answered_from, NamesFrom, round_before, used_up, left_by, starts_from, ran_from, Ran}
use Rattle.network.specs.Chain.{counting}
use Rattle.network.proofs.AreaLaws.{holds-other, holds_more}
use Rattle.network.proofs.Verdicts.{number_of}

abbrev count_of : Answer → ℕ
count_of a = a.count

abbrev place_of : Answer → ℕ
place_of a = a.first

-- ---- the numbers of rounds

-- rounds answer 0, 23 or 24
pub ends_number : (from : Area) {most : ℕ} {ending : Ending (List ℕ)} (k : ℕ) → RoundsEnd most ending → k ≡ (answered_from from ending).number
    → (k ≡ 0 → ⊥) → (k ≡ 23 → ⊥) → (k ≡ 24 → ⊥) → ⊥
ends_number from k (at_network network count) e a b c = a e
ends_number from k (at_triple i j l count) e a b c = b e
ends_number from k at_last e a b c = c e

one_area : (a b : Area) → area_number a ≡ area_number b → a ≡ b
one_area First First e = refl
one_area First Second e = absurd (omega (arith, e))
one_area Second First e = absurd (omega (arith, e))
one_area Second Second e = refl

-- ---- what a run that is used up leaves

module _ (n : ℕ) (m : List ℕ) (size : length m ≡ n * n) where
  after_long : (count : ℕ) → n * n ≤ length (after_rounds count n m)
  after_long count = omega (arith, length_after count n m size)

  -- an area keeps its length, and what is laid in front of it covers what was left
  used_length : (count : ℕ) (holder : Bool) (held : List ℕ) → n * n ≤ length held → length (used_up n count m holder held) ≡ length held
  used_length count true held h = length-laid (n * n) (after_rounds count n m) held (after_long count) h
  used_length zero false held h = refl
  used_length (suc count) false held h = length-laid (n * n) (after_rounds count n m) held (after_long count) h

  used_rest : (count : ℕ) (holder : Bool) (filled held : List ℕ) → laid (n * n) filled (used_up n count m holder held) ≡ laid (n * n) filled held
  used_rest count true filled held = laid-again (n * n) filled (after_rounds count n m) held (after_long count)
  used_rest zero false filled held = refl
  used_rest (suc count) false filled held = laid-again (n * n) filled (after_rounds count n m) held (after_long count)

  -- the holder's front is the last round's matrix
  used_front : (count : ℕ) (first second : List ℕ) (h : Area)
      → take (n * n) (chosen h (used_up n count m (same_area First h) first) (used_up n count m (same_area Second h) second)) ≡ after_rounds count n m
  used_front count first second First =
      take-laid (n * n) (after_rounds count n m) first (after_long count)
      ∙ take_all (n * n) (after_rounds count n m) (omega (arith, length_after count n m size))
  used_front count first second Second =
      take-laid (n * n) (after_rounds count n m) second (after_long count)
      ∙ take_all (n * n) (after_rounds count n m) (omega (arith, length_after count n m size))

  -- used up again
  used_more : (most others : ℕ) (h area : Area) (held : List ℕ)
      → used_up n others (after_rounds most n m) (same_area area (holds h others)) (used_up n most m (same_area area h) held)
      ≡ used_up n (most + others) m (same_area area (holds h others)) held
  unfolding after_rounds
  used_more most zero h area held = none (same_area area h)
    where
      none : (b : Bool) → used_up n 0 (after_rounds most n m) b (used_up n most m b held) ≡ used_up n (most + 0) m b held
      none true =
          used_rest most true (after_rounds most n m) held ∙ ap (λ (k : ℕ). laid (n * n) (after_rounds k n m) held) (sym (add-zero most))
      none false = ap (λ (k : ℕ). round_before n k m held) (sym (add-zero most))
  used_more most (suc others) h area held = some (same_area area h) (same_area area (holds h (suc others)))
    where
      one_more : most + suc others ≡ suc (most + others)
      one_more = omega arith

      some : (a b : Bool) → used_up n (suc others) (after_rounds most n m) b (used_up n most m a held) ≡ used_up n (most + suc others) m b held
      some a true =
          used_rest most a (after_rounds (suc others) n (after_rounds most n m)) held
          ∙ ap (λ (l : List ℕ). laid (n * n) l held) (sym (after_more most (suc others) n m))
      some a false =
          used_rest most a (after_rounds others n (after_rounds most n m)) held
          ∙ ap (λ (l : List ℕ). laid (n * n) l held) (sym (after_more most others n m))
          ∙ ap (λ (k : ℕ). round_before n k m held) (sym one_more)

-- ---- a run that was used up

-- it ran within its limits, all its rounds were made, and the area named holds the matrix
pub record WasUsedUp (n : ℕ) (from : Area) (most : ℕ) (first second : List ℕ) (count : ℕ) (area : Area) : Type 0 where
  pub runs : Runs n (starts_from n from first second) (length first) (length second)
  pub used : is_used_up (rounds most n 0 (starts_from n from first second)) ≡ true
  pub counted : count ≡ most
  pub holder : area ≡ holds from most

chosen-long : (n : ℕ) (first second : List ℕ) (a : Area) → n * n ≤ length first → n * n ≤ length second → n * n ≤ length (chosen a first second)
chosen-long n first second First x y = x
chosen-long n first second Second x y = y

module _ {n : ℕ} {from : Area} {most : ℕ} {first second first₁ second₁ : List ℕ} {count : ℕ} {area : Area}
    (call : Ran n from most first second first₁ second₁ (Err (Unfinished count area))) where
  pub was_used_up : WasUsedUp n from most first second count area
  was_used_up =
      by_ran
      (λ (e : Ending (List ℕ)). answer 24 (area_number area) 0 0 count ≡ answered_from from e → WasUsedUp n from most first second count area)
      n most (starts_from n from first second) (length first) (length second)
      (λ e. absurd (let z : ◌≡◌ {A = ℕ} 24 1 = ap number_of e in omega arith))
      (λ e. absurd (let z : ◌≡◌ {A = ℕ} 24 2 = ap number_of e in omega arith))
      (λ e. absurd (let z : ◌≡◌ {A = ℕ} 24 25 = ap number_of e in omega arith))
      (λ r e.
      let u = used (rounds_ended most n (starts_from n from first second)) e in
      record { runs = r; used = u.0; counted = u.1; holder = u.2 })
      call.answer
    where
      used : {ending : Ending (List ℕ)} → RoundsEnd most ending → answer 24 (area_number area) 0 0 count ≡ answered_from from ending
          → (is_used_up ending ≡ true) × (count ≡ most) × (area ≡ holds from most)
      used (at_network network k) e = absurd (let z : ◌≡◌ {A = ℕ} 24 0 = ap number_of e in omega arith)
      used (at_triple i k j l) e = absurd (let z : ◌≡◌ {A = ℕ} 24 23 = ap number_of e in omega arith)
      used at_last e = (refl, ap count_of e, one_area area (holds from most) (ap place_of e))

  abbrev m : List ℕ
  m = starts_from n from first second

  abbrev w : WasUsedUp n from most first second count area
  w = was_used_up

  size : length (starts_from n from first second) ≡ n * n
  size = length-take-le (n * n) (chosen from first second) (chosen-long n first second from w.runs.first-long w.runs.second-long)

  pub continues : Continues n most (starts_from n from first second)
  continues = used_up_continues most n m size (plain_tested n m w.runs.plain) w.used

  ended : ran_from n from most first second ≡ refused (answer 24 0 0 0 most)
  ended =
      ran-rounds n most m (length first) (length second) w.runs.range w.runs.first-long w.runs.second-long w.runs.plain
      ∙ continues.ending

  in_first_lem : first₁ ≡ used_up n most m (same_area First (holds from most)) first
  unfolding left_by
  in_first_lem = call.in_first ∙ ap (λ (e : Ending (List ℕ)). left_by n from m e First first) ended

  in_second_lem : second₁ ≡ used_up n most m (same_area Second (holds from most)) second
  unfolding left_by
  in_second_lem = call.in_second ∙ ap (λ (e : Ending (List ℕ)). left_by n from m e Second second) ended

  -- the next run starts from the matrix after the last round
  pub next_starts : starts_from n area first₁ second₁ ≡ after_rounds most n (starts_from n from first second)
  next_starts = rw (w.holder, in_first_lem, in_second_lem) (used_front n m size most first second (holds from most))

  first-length : length first₁ ≡ length first
  first-length = rw in_first_lem (used_length n m size most (same_area First (holds from most)) first w.runs.first-long)

  second-length : length second₁ ≡ length second
  second-length = rw in_second_lem (used_length n m size most (same_area Second (holds from most)) second w.runs.second-long)

  -- and comes to what rounds from it come to: neither 1, nor 2, nor 25
  pub next_runs : (others : ℕ) → ran_from n area others first₁ second₁ ≡ rounds others n 0 (after_rounds most n (starts_from n from first second))
  next_runs others =
      ap (λ (l : List ℕ). ran n others l (length first₁) (length second₁)) next_starts
      ∙ ran-rounds n others (after_rounds most n m) (length first₁) (length second₁) w.runs.range (rw first-length w.runs.first-long)
      (rw second-length w.runs.second-long) (plain_passes n (after_rounds most n m) continues.plain)

  -- ---- both together

  together : (others : ℕ) → ran_from n from (most + others) first second ≡ later most (rounds others n 0 (after_rounds most n m))
  together others =
      ran-rounds n (most + others) m (length first) (length second) w.runs.range w.runs.first-long w.runs.second-long w.runs.plain
      ∙ rounds_more most others n m
      ∙ rw w.used

  abbrev recount : ℕ → Answer → Answer
  recount k a = answer a.number a.first a.second a.third k

  both_holder : (others : ℕ) → holds area others ≡ holds from (most + others)
  both_holder others = ap (λ (a : Area). holds a others) w.holder ∙ sym (holds_more from most others)

  both_answer : {others : ℕ} {ending : Ending (List ℕ)} → RoundsEnd others ending
      → recount (most + (answered_from area ending).count) (answered_from area ending) ≡ answered_from from (later most ending)
  both_answer (at_network network k) = refl
  both_answer (at_triple i k j l) = refl
  both_answer {others} at_last = ap (λ (a : Area). answer 24 (area_number a) 0 0 (most + others)) (both_holder others)

  recounted : (verdict : Verdict) {others : ℕ} {ending : Ending (List ℕ)} (k : ℕ) → RoundsEnd others ending
      → answer_of verdict ≡ answered_from area ending → answer_of (counting k verdict) ≡ recount k (answer_of verdict)
  recounted (Ok outcome) k x e = refl
  recounted (Err (Refused (Region i) r)) k x e = refl
  recounted (Err (Refused (Pair i j) r)) k x e = refl
  recounted (Err (Refused (Triple i l j) r)) k x e = refl
  recounted (Err (Unfinished r a)) k x e = refl
  recounted (Err Unprepared) k x e =
      absurd (ends_number area 25 x (ap number_of e) (λ z. omega (arith, z)) (λ z. omega (arith, z)) (λ z. omega (arith, z)))
  recounted (Err OutOfRange) k x e =
      absurd (ends_number area 1 x (ap number_of e) (λ z. omega (arith, z)) (λ z. omega (arith, z)) (λ z. omega (arith, z)))
  recounted (Err WrongLength) k x e =
      absurd (ends_number area 2 x (ap number_of e) (λ z. omega (arith, z)) (λ z. omega (arith, z)) (λ z. omega (arith, z)))

  both_names : (verdict : Verdict) → NamesFrom n area verdict → NamesFrom n from (counting (most + (answer_of verdict).count) verdict)
  both_names (Ok outcome) names = (
    names.0,
    names.1
        ∙ ap (λ (b : Area). holds b outcome.rounds) (ap other w.holder ∙ sym (holds-other from most))
        ∙ sym (holds_more (other from) most outcome.rounds),
  )
  both_names (Err (Refused contradiction r)) names = tt
  both_names (Err (Unfinished r a)) names = tt
  both_names (Err Unprepared) names = tt
  both_names (Err OutOfRange) names = tt
  both_names (Err WrongLength) names = tt

  both_left : {others : ℕ} {ending : Ending (List ℕ)} → RoundsEnd others ending → (which : Area) (held : List ℕ)
      → left_by n area (after_rounds most n m) ending which (used_up n most m (same_area which (holds from most)) held)
      ≡ left_by n from m (later most ending) which held
  unfolding left_by
  both_left (at_network network k) which held = used_rest n m size most (same_area which (holds from most)) network held
  both_left (at_triple i k j l) which held = used_rest n m size most (same_area which (holds from most)) (replicate (n * n) 0) held
  both_left {others} at_last which held =
      ap (λ (a : Area). used_up n others (after_rounds most n m) (same_area which a) (used_up n most m (same_area which (holds from most)) held))
      (ap (λ (a : Area). holds a others) w.holder)
      ∙ used_more n m size most others (holds from most) which held
      ∙ ap (λ (a : Area). used_up n (most + others) m (same_area which a) held) (sym (holds_more from most others))

  -- the verdict with the counts added up, and every byte of both areas, are those of one run
  pub run_on : {others : ℕ} {first' second' : List ℕ} {verdict : Verdict} → Ran n area others first₁ second₁ first' second' verdict
      → Ran n from (most + others) first second first' second' (counting (count + (answer_of verdict).count) verdict)
  run_on {others} {first'} {second'} {verdict} run =
      let ending : Ending (List ℕ) = rounds others n 0 (after_rounds most n m) in
      let x : RoundsEnd others ending = rounds_ended others n (after_rounds most n m) in
      let e : answer_of verdict ≡ answered_from area ending = run.answer ∙ ap (answered_from area) (next_runs others) in
      rw w.counted
      (record {
        answer = recounted verdict (most + (answer_of verdict).count) x e
            ∙ ap (λ (a : Answer). recount (most + a.count) a) e
            ∙ both_answer x
            ∙ ap (answered_from from) (sym (together others));
        names = both_names verdict run.names;
        in_first = run.in_first
            ∙ ap (λ (e : Ending (List ℕ)). left_by n area (starts_from n area first₁ second₁) e First first₁) (next_runs others)
            ∙ ap (λ (l : List ℕ). left_by n area l ending First first₁) next_starts
            ∙ ap (left_by n area (after_rounds most n m) ending First) in_first_lem
            ∙ both_left x First first
            ∙ ap (λ (e : Ending (List ℕ)). left_by n from m e First first) (sym (together others));
        in_second = run.in_second
            ∙ ap (λ (e : Ending (List ℕ)). left_by n area (starts_from n area first₁ second₁) e Second second₁) (next_runs others)
            ∙ ap (λ (l : List ℕ). left_by n area l ending Second second₁) next_starts
            ∙ ap (left_by n area (after_rounds most n m) ending Second) in_second_lem
            ∙ both_left x Second second
            ∙ ap (λ (e : Ending (List ℕ)). left_by n from m e Second second) (sym (together others));
      })
