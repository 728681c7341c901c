-- Rounds a few at a time about the calls for C: what `chachaqom_prepare` left, taken through calls of `chachaqom_run`, ends as
-- `chachaqom_refine` does, and so meets demand 3; a refused preparation is refused as the whole is; calls with a round each finish; and a
-- call from the area that a 24 named is never refused with 25.
use mathlib.Core.Path.{◌≡◌, refl, sym, ap, ◌∙◌}
use mathlib.Core.List.{List, [], ◌∷◌}
use Prim.Native.Nat.{ℕ, suc, ◌+◌, ◌≤◌, ◌<◌}
use native.Mathlib.Omega.{arith}
use borrow.Author.Tests.{eq-eqb}
use borrow.Fn.Kinds.{Dens, res_t, ended_of}
use contract.Lifetimes.{Lfts}
use denote.Triple.Clauses.{AtExit}
use lib.ListN.{length}
use Rattle.std.proofs.Common.{Ok, Err}
use Rattle.lists.specs.BigEndian.{number_at}
use Rattle.answer.specs.Answer.{Answer, answer}
use Rattle.answer.specs.Ending.{Ending, accepted, refused, answered}
use Rattle.answer.specs.Bytes.{answer_bytes, left_with}
use Rattle.answer.proofs.Exporting.{fit_leaves, one_answer}
use Rattle.refinement.specs.Refine.{most_rounds, refined}
use Rattle.refinement.specs.Run.{total, EachSome, readied}
use Rattle.refinement.proofs.Readied.{readied-accepts, readied-ending, readied-refuses}
use Rattle.network.specs.declared.Area.TheVariants.{First}
use Rattle.refinement.specs.declared.Contradiction.TheVariants.{Region, Pair, Triple}
use Rattle.network.specs.declared.Unrefined.TheVariants.{Refused, Unfinished, Unprepared, OutOfRange, WrongLength}
use Rattle.network.specs.Verdict.{Verdict}
use Rattle.network.specs.Numbers.{answer_of}
use Rattle.network.specs.Refined.{leaves, Refined}
use Rattle.network.specs.Prepared.{leaves_second, Prepared}
use Rattle.network.specs.Chain.{counting}
use Rattle.network.specs.Made.{Made}
use Rattle.network.proofs.Whole.{ready as ready-whole}
use Rattle.network.proofs.SharedOutCalls.{chain_one_run, shared_out_calls, enough_shared_out}
use Rattle.network.proofs.CallsFinish.{calls_bound, calls_finish}
use Rattle.network.proofs.NeverUnprepared.{unfinished_goes_on, ready_goes_on}
use Rattle.chachaqom.specs.PrepareExport.{PrepareExport}
use Rattle.chachaqom.specs.RefineExport.{RefineExport}
use Rattle.chachaqom.specs.RefineDemand.{RefineDemand}
use Rattle.chachaqom.specs.RunExport.{RunExport}
use Rattle.chachaqom.specs.RunChain.{RunChain, last, next}
use Rattle.chachaqom.specs.RunPromises.{AsWhole, RoundsMade}
use Rattle.chachaqom.proofs.Wide.{refine_read_back}
use Rattle.chachaqom.proofs.DemandThree.{export_demand_three}
use Rattle.chachaqom.proofs.RunCalls.{runs_as, unfinishes, used_up_from, ChainsAs, chains_as}
use Rattle.chachaqom.proofs.prepare.chachaqom_prepare.Kinds as preparing
use Rattle.chachaqom.proofs.prepare.chachaqom_prepare.Reads.{Post as Prepares}
use Rattle.chachaqom.proofs.run.chachaqom_run.Kinds as running
use Rattle.chachaqom.proofs.run.chachaqom_run.Reads.{Post as Runs}
use Rattle.chachaqom.proofs.refine.chachaqom_refine.Kinds as refining
use Rattle.chachaqom.proofs.refine.chachaqom_refine.Reads.{Post as Refines}

-- ---- runs that go on

made_numbers : (verdict : Verdict) (number : ℕ) → number ≡ (answer_of verdict).number → Made verdict → RoundsMade number
made_numbers (Ok outcome) number e m = omega (arith, e)
made_numbers (Err (Refused (Region i) r)) number e m = omega (arith, e)
made_numbers (Err (Refused (Pair i j) r)) number e m = omega (arith, e)
made_numbers (Err (Refused (Triple i k j) r)) number e m = omega (arith, e)
made_numbers (Err (Unfinished r a)) number e m = omega (arith, e)
made_numbers (Err Unprepared) number e m = absurd (m.prepared refl)
made_numbers (Err OutOfRange) number e m = absurd (m.in_range refl)
made_numbers (Err WrongLength) number e m = absurd (m.long_enough refl)

-- a call with the area that a 24 named, and the areas as it left them
pub export_goes_on : {n area most others number : ℕ} {first second answer first₁ second₁ answer₁ other first' second' answer' : List ℕ}
    → RunExport n area most first second answer first₁ second₁ answer₁ 24 → length answer ≡ 20
    → RunExport n (number_at answer₁ 4) others first₁ second₁ other first' second' answer' number → length other ≡ 20 → RoundsMade number
export_goes_on {number = number} call fit run fit' =
    let f = used_up_from call fit in
    let u = unfinishes f.from f.is call fit in
    let r = runs_as u.area u.named run fit' in
    made_numbers r.verdict number r.numbered (unfinished_goes_on u.ran r.ran)

-- ---- the counts added up

abbrev recount : ℕ → Answer → Answer
recount count a = answer a.number a.first a.second a.third count

-- rounds that were made tell any count
counted-answer : (count : ℕ) (verdict : Verdict) → Made (counting count verdict)
    → answer_of (counting count verdict) ≡ recount count (answer_of verdict)
counted-answer count (Ok outcome) m = refl
counted-answer count (Err (Refused (Region i) r)) m = refl
counted-answer count (Err (Refused (Pair i j) r)) m = refl
counted-answer count (Err (Refused (Triple i k j) r)) m = refl
counted-answer count (Err (Unfinished r a)) m = refl
counted-answer count (Err Unprepared) m = absurd (m.prepared refl)
counted-answer count (Err OutOfRange) m = absurd (m.in_range refl)
counted-answer count (Err WrongLength) m = absurd (m.long_enough refl)

-- ---- a preparation that is refused

second_refused : (n : ℕ) (ending : Ending (List ℕ)) (area : List ℕ) → ((answered ending).number ≡ 0 → ⊥)
    → leaves_second n ending area ≡ leaves n ending area
unfolding leaves_second
second_refused n (accepted matrix count) area h = absurd (h refl)
second_refused n (refused numbers) area h = refl

-- it answers and leaves what the whole answers and leaves
pub refused_preparation : {n : ℕ} {cells first second answer first₁ second₁ answer₁ : List ℕ} {number : ℕ}
    → PrepareExport n cells first second answer first₁ second₁ answer₁ number → length answer ≡ 20 → (number ≡ 0 → ⊥)
    → RefineExport n cells first second answer first₁ second₁ answer₁ number
refused_preparation {n} {cells} {first} {second} {answer} call fit h =
    let ending : Ending (List ℕ) = readied n cells (length first) (length second) in
    let numbered : (answered ending).number ≡ 0 → ⊥ = λ z. h (call.answers.returned ∙ rw (eq-eqb (length answer) 20 fit) z) in
    let same = readied-refuses n cells (length first) (length second) numbered in
    record {
      answers = rw same call.answers;
      in_first = rw same call.in_first;
      in_second = rw same (call.in_second ∙ ap (λ (l : List ℕ). left_with answer l second) (second_refused n ending second numbered));
    }

-- ---- after a preparation

module _ {n : ℕ} {cells first second answer first₁ second₁ answer₁ : List ℕ}
    (call : PrepareExport n cells first second answer first₁ second₁ answer₁ 0) (fit : length answer ≡ 20) where
  ready : Prepared n cells first second first₁ second₁ (Ok tt)
  ready =
      let zero_number : (answered (readied n cells (length first) (length second))).number ≡ 0 =
      sym (call.answers.returned ∙ rw (eq-eqb (length answer) 20 fit)) in
      let ending = readied-ending n cells (length first) (length second) (readied-accepts n cells (length first) (length second) zero_number) in
      record {
        answer = sym (ap answered ending);
        in_first = call.in_first ∙ rw (eq-eqb (length answer) 20 fit);
        in_second = call.in_second ∙ rw (eq-eqb (length answer) 20 fit);
      }

  -- a call with the first area, and the areas as the preparation left them
  pub prepared_export_goes_on : {most number : ℕ} {other first' second' answer' : List ℕ}
      → RunExport n 1 most first₁ second₁ other first' second' answer' number → length other ≡ 20 → RoundsMade number
  prepared_export_goes_on {number = number} run fit' =
      let r = runs_as First refl run fit' in made_numbers r.verdict number r.numbered (ready_goes_on ready r.ran)

  module _ {shares first' second' answer' : List ℕ} {counted number : ℕ}
      (chain : RunChain n 1 first₁ second₁ shares counted number first' second' answer') where
    behind : ChainsAs n First first₁ second₁ shares counted number first' second' answer'
    behind = chains_as First refl chain

    -- where the last call is not used up
    module _ (h : number ≡ 24 → ⊥) where
      as_refined : Refined n cells first second first' second' (counting counted behind.verdict)
      as_refined = shared_out_calls ready behind.chain (λ e. h (behind.numbered ∙ e))

      told : recount counted (answer_of behind.verdict) ≡ answered (refined n cells (length first) (length second))
      told =
          sym (counted-answer counted behind.verdict (ready_goes_on ready (chain_one_run behind.chain))) ∙ as_refined.answer

      -- all of them together are one call for the whole
      pub shared_out_exports : {other first'' second'' answer'' : List ℕ} {whole : ℕ}
          → RefineExport n cells first second other first'' second'' answer'' whole → length other ≡ 20
          → AsWhole counted number first' second' answer' whole first'' second'' answer''
      shared_out_exports {other} refine fit'' =
          let back = refine_read_back refine fit'' in
          record {
            same_number = behind.numbered ∙ ap (λ (a : Answer). a.number) told
                ∙ sym (refine.answers.returned ∙ rw (eq-eqb (length other) 20 fit''));
            same_first_place = behind.told.first ∙ ap (λ (a : Answer). a.first) told ∙ sym back.first;
            same_second_place = behind.told.second ∙ ap (λ (a : Answer). a.second) told ∙ sym back.second;
            same_third_place = behind.told.third ∙ ap (λ (a : Answer). a.third) told ∙ sym back.third;
            counts_added = ap (λ (a : Answer). a.count) told ∙ sym back.count;
            same_first = as_refined.in_first ∙ sym (refine.in_first ∙ rw (eq-eqb (length other) 20 fit''));
            same_second = as_refined.in_second ∙ sym (refine.in_second ∙ rw (eq-eqb (length other) 20 fit''));
          }

      -- so there is a network within the stated sets exactly where they end with 0, and then they leave the largest
      pub shared_out_demand_three : RefineDemand n cells first' second' number
      shared_out_demand_three =
          let whole : RefineExport n cells first second answer first' second' (answer_bytes (answered (refined n cells (length first) (length second)))) number =
          record {
            answers = record {
              returned = rw (eq-eqb (length answer) 20 fit) (behind.numbered ∙ ap (λ (a : Answer). a.number) told);
              in_answer = rw (eq-eqb (length answer) 20 fit);
            };
            in_first = fit_leaves answer first fit as_refined.in_first;
            in_second = fit_leaves answer second fit as_refined.in_second;
          } in
          export_demand_three whole fit (ready-whole ready).range

    -- with more rounds in all than can change something the last call is never used up
    pub enough_exports : most_rounds n < total shares → number ≡ 24 → ⊥
    enough_exports h e = enough_shared_out ready behind.chain h (sym behind.numbered ∙ e)

    -- of calls with at least one round each there are at most one more than that, and as many are never used up
    pub exports_bound : EachSome shares → length shares ≤ suc (most_rounds n)
    exports_bound some = calls_bound ready behind.chain some

    pub exports_finish : EachSome shares → most_rounds n < length shares → number ≡ 24 → ⊥
    exports_finish some h e = calls_finish ready behind.chain some h (sym behind.numbered ∙ e)

-- ---- the same of what the contracts of the calls promise

-- a call of `chachaqom_run` is the last of a chain
pub run_call_last : (κs : Lfts 3) (a : Dens κs running.ps) (number : (res_t running.r κs).Denot) (s : AtExit (ended_of 3 running.ps running.r) κs)
    → Runs κs a number s → length a.1.1.1.1.1.0.now ≡ 20
    → RunChain a.0 a.1.0 a.1.1.1.0.now a.1.1.1.1.0.now (a.1.1.0 ∷ []) (number_at s.1.1.1.1.1.0.now 16) number
    s.1.1.1.0.now s.1.1.1.1.0.now s.1.1.1.1.1.0.now
run_call_last κs a number s call fit = last call fit refl

-- or, where it answers 24, stands before one that is given the area that it names, with the areas as it left them
pub run_call_next : (κs : Lfts 3) (a : Dens κs running.ps) (number : (res_t running.r κs).Denot) (s : AtExit (ended_of 3 running.ps running.r) κs)
    {shares first' second' answer' : List ℕ} {others later : ℕ} → Runs κs a number s → length a.1.1.1.1.1.0.now ≡ 20 → number ≡ 24
    → RunChain a.0 (number_at s.1.1.1.1.1.0.now 4) s.1.1.1.0.now s.1.1.1.1.0.now shares others later first' second' answer'
    → RunChain a.0 a.1.0 a.1.1.1.0.now a.1.1.1.1.0.now (a.1.1.0 ∷ shares)
    (number_at s.1.1.1.1.1.0.now 16 + others) later first' second' answer'
run_call_next κs a number s call fit e rest = next (rw e at call) fit rest refl

-- such calls from the first area of what `chachaqom_prepare` left, the last not used up, beside a call of `chachaqom_refine` on the same
-- cells and areas: the same number, places and bytes, and the counts added up
pub run_calls_as_whole : (κs : Lfts 4) (a : Dens κs preparing.ps) (r : (res_t preparing.r κs).Denot)
    (s : AtExit (ended_of 4 preparing.ps preparing.r) κs) (μs : Lfts 4) (b : Dens μs refining.ps) (whole : (res_t refining.r μs).Denot)
    (t : AtExit (ended_of 4 refining.ps refining.r) μs) {shares first' second' answer' : List ℕ} {counted number : ℕ}
    → Prepares κs a r s → length a.1.1.1.1.0.now ≡ 20 → r ≡ 0
    → RunChain a.0 1 s.1.1.0.now s.1.1.1.0.now shares counted number first' second' answer' → (number ≡ 24 → ⊥)
    → Refines μs b whole t → length b.1.1.1.1.0.now ≡ 20 → b.0 ≡ a.0 → b.1.0.now ≡ a.1.0.now
    → b.1.1.0.now ≡ a.1.1.0.now → b.1.1.1.0.now ≡ a.1.1.1.0.now
    → AsWhole counted number first' second' answer' whole t.1.1.0.now t.1.1.1.0.now t.1.1.1.1.0.now
run_calls_as_whole κs a r s μs b whole t start fit e chain h call fit' n cells f g =
    shared_out_exports (rw e at start) fit chain h (rw (n, cells, f, g) at call) fit'

-- and demand 3 of them: accepted exactly where there is a network within the stated sets, and then both areas hold the largest
pub run_calls_demand_three : (κs : Lfts 4) (a : Dens κs preparing.ps) (r : (res_t preparing.r κs).Denot)
    (s : AtExit (ended_of 4 preparing.ps preparing.r) κs) {shares first' second' answer' : List ℕ} {counted number : ℕ}
    → Prepares κs a r s → length a.1.1.1.1.0.now ≡ 20 → r ≡ 0
    → RunChain a.0 1 s.1.1.0.now s.1.1.1.0.now shares counted number first' second' answer' → (number ≡ 24 → ⊥)
    → RefineDemand a.0 a.1.0.now first' second' number
run_calls_demand_three κs a r s start fit e chain h = shared_out_demand_three (rw e at start) fit chain h

-- where `chachaqom_prepare` is refused, `chachaqom_refine` on the same cells and areas answers and leaves the same
pub refused_preparation_as_whole : (κs : Lfts 4) (a : Dens κs preparing.ps) (r : (res_t preparing.r κs).Denot)
    (s : AtExit (ended_of 4 preparing.ps preparing.r) κs) (μs : Lfts 4) (b : Dens μs refining.ps) (whole : (res_t refining.r μs).Denot)
    (t : AtExit (ended_of 4 refining.ps refining.r) μs) → Prepares κs a r s → length a.1.1.1.1.0.now ≡ 20 → (r ≡ 0 → ⊥)
    → Refines μs b whole t → b.0 ≡ a.0 → b.1.0.now ≡ a.1.0.now → b.1.1.0.now ≡ a.1.1.0.now
    → b.1.1.1.0.now ≡ a.1.1.1.0.now → b.1.1.1.1.0.now ≡ a.1.1.1.1.0.now
    → ((r ≡ whole) × (s.1.1.1.1.0.now ≡ t.1.1.1.1.0.now))
    × (s.1.1.0.now ≡ t.1.1.0.now) × (s.1.1.1.0.now ≡ t.1.1.1.0.now)
refused_preparation_as_whole κs a r s μs b whole t start fit h refine n cells f g e =
    let mine = refused_preparation start fit h in
    let call = rw (n, cells, f, g, e) at refine in
    (one_answer mine.answers call.answers, mine.in_first ∙ sym call.in_first, mine.in_second ∙ sym call.in_second)

-- with at least one round each there are at most 7n(n-1)/2 + 1 of them, and as many are never used up
pub run_calls_finish : (κs : Lfts 4) (a : Dens κs preparing.ps) (r : (res_t preparing.r κs).Denot)
    (s : AtExit (ended_of 4 preparing.ps preparing.r) κs) {shares first' second' answer' : List ℕ} {counted number : ℕ}
    → Prepares κs a r s → length a.1.1.1.1.0.now ≡ 20 → r ≡ 0
    → RunChain a.0 1 s.1.1.0.now s.1.1.1.0.now shares counted number first' second' answer' → EachSome shares
    → (length shares ≤ suc (most_rounds a.0)) × (most_rounds a.0 < length shares → number ≡ 24 → ⊥)
run_calls_finish κs a r s start fit e chain some =
    (exports_bound (rw e at start) fit chain some, exports_finish (rw e at start) fit chain some)

-- a call with the area that a 24 named is never refused with 25, 1 or 2
pub run_call_goes_on : (κs : Lfts 3) (a : Dens κs running.ps) (r : (res_t running.r κs).Denot) (s : AtExit (ended_of 3 running.ps running.r) κs)
    (μs : Lfts 3) (b : Dens μs running.ps) (number : (res_t running.r μs).Denot) (t : AtExit (ended_of 3 running.ps running.r) μs)
    → Runs κs a r s → length a.1.1.1.1.1.0.now ≡ 20 → r ≡ 24 → Runs μs b number t → length b.1.1.1.1.1.0.now ≡ 20
    → b.0 ≡ a.0 → b.1.0 ≡ number_at s.1.1.1.1.1.0.now 4 → b.1.1.1.0.now ≡ s.1.1.1.0.now
    → b.1.1.1.1.0.now ≡ s.1.1.1.1.0.now → RoundsMade number
run_call_goes_on κs a r s μs b number t call fit e run fit' n area f g =
    export_goes_on (rw e at call) fit (rw (n, area, f, g) at run) fit'

-- nor is one with the first area, as `chachaqom_prepare` left it
pub prepared_run_call_goes_on : (κs : Lfts 4) (a : Dens κs preparing.ps) (r : (res_t preparing.r κs).Denot)
    (s : AtExit (ended_of 4 preparing.ps preparing.r) κs) (μs : Lfts 3) (b : Dens μs running.ps) (number : (res_t running.r μs).Denot)
    (t : AtExit (ended_of 3 running.ps running.r) μs) → Prepares κs a r s → length a.1.1.1.1.0.now ≡ 20 → r ≡ 0
    → Runs μs b number t → length b.1.1.1.1.1.0.now ≡ 20 → b.0 ≡ a.0 → b.1.0 ≡ 1
    → b.1.1.1.0.now ≡ s.1.1.0.now → b.1.1.1.1.0.now ≡ s.1.1.1.0.now → RoundsMade number
prepared_run_call_goes_on κs a r s μs b number t start fit e run fit' n area f g =
    prepared_export_goes_on (rw e at start) fit (rw (n, area, f, g) at run) fit'
