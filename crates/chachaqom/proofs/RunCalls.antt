-- A call of `chachaqom_run` by the verdict behind it, and a chain of such calls by the chain behind it.
use mathlib.Core.Path.{◌≡◌, refl, sym, ap, ◌∙◌}
use mathlib.Core.Bool.{false}
use mathlib.Core.List.{List}
use Prim.Native.Nat.{ℕ, ◌+◌}
use native.Mathlib.Omega.{arith}
use borrow.Author.Tests.{eq-eqb, eqb-true}
use lib.Dec.{eqb}
use lib.ListN.{length}
use Rattle.std.proofs.Common.{Ok, Err}
use Rattle.lists.specs.BigEndian.{number_at}
use Rattle.lists.proofs.Splits.{by_test}
use Rattle.region.specs.Lookup.{place}
use Rattle.answer.specs.Answer.{Answer}
use Rattle.answer.specs.Ending.{Ending}
use Rattle.answer.specs.Bytes.{left_with}
use Rattle.refinement.proofs.Limits.{by_ran}
use Rattle.refinement.proofs.Sharing.{RoundsEnd, at_network, at_triple, at_last, rounds_ended}
use Rattle.network.specs.declared.Area.{Area}
use Rattle.network.specs.declared.Area.TheVariants.{First, Second}
use Rattle.refinement.specs.declared.Contradiction.TheVariants.{Region, Pair, Triple}
use Rattle.network.specs.declared.Unrefined.TheVariants.{Refused, Unfinished, Unprepared, OutOfRange, WrongLength}
use Rattle.network.specs.Verdict.{Verdict, acceptance}
use Rattle.network.specs.Areas.{other, holds}
use Rattle.network.specs.Numbers.{area_number, answer_of}
use Rattle.network.specs.Ran.{answered_from, NamesFrom, left_by, starts_from, ran_from, Ran}
use Rattle.network.specs.Chain.{Chain, last as last-run, next as next-run}
use Rattle.chachaqom.specs.ReadBack.{ReadBack}
use Rattle.chachaqom.specs.RunExport.{is_area, area_of, run_of, RunExport}
use Rattle.chachaqom.specs.RunChain.{RunChain, last, next}
use Rattle.chachaqom.proofs.Promised.{no_area}
use Rattle.chachaqom.proofs.Wide.{run_read_back}

-- ---- the verdict with the numbers of an ending

record Told (n : ℕ) (from : Area) (ending : Ending (List ℕ)) : Type 0 where
  verdict : Verdict
  answer : answer_of verdict ≡ answered_from from ending
  names : NamesFrom n from verdict

rounds-told : (n : ℕ) (from : Area) {most : ℕ} {ending : Ending (List ℕ)} → RoundsEnd most ending → Told n from ending
rounds-told n from (at_network network count) =
    record { verdict = acceptance n count (holds (other from) count); answer = refl; names = (refl, refl) }
rounds-told n from (at_triple i k j count) =
    record { verdict = Err (Refused (Triple (place i) (place k) (place j)) count); answer = refl; names = tt }
rounds-told n from {most} at_last = record { verdict = Err (Unfinished most (holds from most)); answer = refl; names = tt }

ran-told : (n : ℕ) (from : Area) (most : ℕ) (first second : List ℕ) → Told n from (ran_from n from most first second)
ran-told n from most first second =
    by_ran (Told n from) n most (starts_from n from first second) (length first) (length second)
    (record { verdict = Err OutOfRange; answer = refl; names = tt })
    (record { verdict = Err WrongLength; answer = refl; names = tt })
    (record { verdict = Err Unprepared; answer = refl; names = tt })
    (λ r. rounds-told n from (rounds_ended most n (starts_from n from first second)))

-- ---- a call by its area

area-back : (from : Area) → area_of (area_number from) ≡ from
area-back First = refl
area-back Second = refl

run_from : (n : ℕ) (from : Area) (most : ℕ) (first second : List ℕ) → run_of n (area_number from) most first second ≡ ran_from n from most first second
unfolding run_of
run_from n First most first second = refl
run_from n Second most first second = refl

-- what a call promises is what a run promises, and its answer is that of the run's verdict
pub record RunsAs (n : ℕ) (from : Area) (most : ℕ) (first second first' second' answer' : List ℕ) (number : ℕ) : Type 0 where
  pub verdict : Verdict
  pub ran : Ran n from most first second first' second' verdict
  pub numbered : number ≡ (answer_of verdict).number
  pub told : ReadBack (answer_of verdict) answer'

pub runs_as : {n area most : ℕ} {first second answer first' second' answer' : List ℕ} {number : ℕ} (from : Area) → area ≡ area_number from
    → RunExport n area most first second answer first' second' answer' number → length answer ≡ 20
    → RunsAs n from most first second first' second' answer' number
runs_as {n} {area} {most} {first} {second} {answer} {first'} {second'} {answer'} {number} from a export fit =
    let call : RunExport n (area_number from) most first second answer first' second' answer' number = rw a at export in
    let told = ran-told n from most first second in
    let same : answered_from (area_of (area_number from)) (run_of n (area_number from) most first second) ≡ answer_of told.verdict =
    rw (area-back from, run_from n from most first second) (sym told.answer) in
    let back = run_read_back call fit in
    let left : (which : Area) (area area' : List ℕ)
    → area' ≡ left_with answer
    (left_by n (area_of (area_number from)) (starts_from n (area_of (area_number from)) first second) (run_of n (area_number from) most first second) which area)
    area
    → area' ≡ left_by n from (starts_from n from first second) (ran_from n from most first second) which area =
    λ which area area' e. rw (eq-eqb (length answer) 20 fit, area-back from, run_from n from most first second) at e in
    record {
      verdict = told.verdict;
      ran = record {
        answer = told.answer;
        names = told.names;
        in_first = left First first first' call.in_first;
        in_second = left Second second second' call.in_second;
      };
      numbered = call.answers.returned ∙ rw (eq-eqb (length answer) 20 fit) (ap (λ (x : Answer). x.number) same);
      told = rw same at back;
    }

-- ---- a call that answers 24

-- its verdict is that the rounds are used up
record UsedUp (verdict : Verdict) : Type 0 where
  rounds : ℕ
  area : Area
  is : verdict ≡ Err (Unfinished rounds area)

used_up_lem : (verdict : Verdict) → (answer_of verdict).number ≡ 24 → UsedUp verdict
used_up_lem (Ok outcome) e = absurd (omega (arith, e))
used_up_lem (Err (Refused (Region i) r)) e = absurd (omega (arith, e))
used_up_lem (Err (Refused (Pair i j) r)) e = absurd (omega (arith, e))
used_up_lem (Err (Refused (Triple i k j) r)) e = absurd (omega (arith, e))
used_up_lem (Err (Unfinished r a)) e = record { rounds = r; area = a; is = refl }
used_up_lem (Err Unprepared) e = absurd (omega (arith, e))
used_up_lem (Err OutOfRange) e = absurd (omega (arith, e))
used_up_lem (Err WrongLength) e = absurd (omega (arith, e))

-- the run that was used up, and where its answer says that the network is
pub record Unfinishes (n : ℕ) (from : Area) (most : ℕ) (first second first' second' answer' : List ℕ) : Type 0 where
  pub rounds : ℕ
  pub area : Area
  pub ran : Ran n from most first second first' second' (Err (Unfinished rounds area))
  pub named : number_at answer' 4 ≡ area_number area
  pub counted : number_at answer' 16 ≡ rounds

pub unfinishes : {n area most : ℕ} {first second answer first' second' answer' : List ℕ} (from : Area) → area ≡ area_number from
    → RunExport n area most first second answer first' second' answer' 24 → length answer ≡ 20
    → Unfinishes n from most first second first' second' answer'
unfinishes from a call fit =
    let r = runs_as from a call fit in
    let u = used_up_lem r.verdict (sym r.numbered) in
    record {
      rounds = u.rounds;
      area = u.area;
      ran = rw u.is at r.ran;
      named = r.told.first ∙ ap (λ (v : Verdict). (answer_of v).first) u.is;
      counted = r.told.count ∙ ap (λ (v : Verdict). (answer_of v).count) u.is;
    }

-- only a number that is an area answers 24
pub record From (area : ℕ) : Type 0 where
  pub from : Area
  pub is : area ≡ area_number from

pub used_up_from : {n area most : ℕ} {first second answer first' second' answer' : List ℕ} → RunExport n area most first second answer first' second' answer' 24
    → length answer ≡ 20 → From area
used_up_from {n} {area} {most} {first} {second} {answer} call fit =
    by_test (eqb area 1) (λ e. record { from = First; is = eqb-true area 1 e })
    (λ e. by_test (eqb area 2) (λ f. record { from = Second; is = eqb-true area 2 f })
    (λ f.
    let none : is_area area ≡ false = rw (e, f) in
    let one : ◌≡◌ {A = ℕ} 24 1 =
    call.answers.returned
    ∙ rw (eq-eqb (length answer) 20 fit)
    (ap (λ (o : Ending (List ℕ)). (answered_from (area_of area) o).number) (no_area n area most first second none)) in
    absurd (omega arith)))

-- ---- a chain of calls

pub record ChainsAs (n : ℕ) (from : Area) (first second shares : List ℕ) (counted number : ℕ) (first' second' answer' : List ℕ) : Type 0 where
  pub verdict : Verdict
  pub chain : Chain n from first second shares counted verdict first' second'
  pub numbered : number ≡ (answer_of verdict).number
  pub told : ReadBack (answer_of verdict) answer'

pub chains_as : {n area : ℕ} {first second shares first' second' answer' : List ℕ} {counted number : ℕ} (from : Area) → area ≡ area_number from
    → RunChain n area first second shares counted number first' second' answer'
    → ChainsAs n from first second shares counted number first' second' answer'
chains_as from a (last call fit e) =
    let r = runs_as from a call fit in
    record { verdict = r.verdict; chain = last-run r.ran (e ∙ r.told.count); numbered = r.numbered; told = r.told }
chains_as from a (next {others = others} call fit rest e) =
    let u = unfinishes from a call fit in
    let r = chains_as u.area u.named rest in
    record {
      verdict = r.verdict;
      chain = next-run u.ran r.chain (e ∙ ap (λ (c : ℕ). c + others) u.counted);
      numbered = r.numbered;
      told = r.told;
    }
