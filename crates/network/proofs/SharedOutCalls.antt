-- However the rounds are shared out over calls of `run`, the calls come to what one call comes to: verdict, counts added up, and every byte of
-- both areas. After a preparation that is ready, and where the last call is not used up, that is the whole refinement.
use mathlib.Core.Path.{◌≡◌, refl, sym, ap, ◌∙◌}
use mathlib.Core.Bool.{false, true≢false}
use mathlib.Core.List.{List, [], ◌∷◌}
use Prim.Native.Nat.{ℕ, ◌+◌, ◌<◌}
use native.Mathlib.Nat.{add-zero}
use native.Mathlib.Omega.{arith}
use contract.Lifetimes.{Lfts}
use denote.Triple.Clauses.{AtExit}
use borrow.Fn.Kinds.{Dens, res_t, ended_of}
use Rattle.std.specs.Prelude.{Ok, Err}
use Rattle.answer.specs.Ending.{Ending}
use Rattle.refinement.specs.Prepare.{prepared}
use Rattle.refinement.specs.Refine.{most_rounds, rounds}
use Rattle.refinement.specs.Run.{is_used_up, total}
use Rattle.refinement.proofs.Sharing.{RoundsEnd, at_network, at_triple, at_last, rounds_ended}
use Rattle.network.specs.declared.Area.{Area}
use Rattle.network.specs.declared.Area.TheVariants.{First}
use Rattle.refinement.specs.declared.Contradiction.TheVariants.{Region, Pair, Triple}
use Rattle.network.specs.Verdict.{Verdict}
use Rattle.network.specs.declared.Unrefined.TheVariants.{Refused, Unfinished, Unprepared, OutOfRange, WrongLength}
use Rattle.network.specs.Numbers.{answer_of}
use Rattle.network.specs.Refined.{Refined}
use Rattle.network.specs.Prepared.{Prepared}
use Rattle.network.specs.Ran.{answered_from, Ran}
use Rattle.network.specs.Chain.{Chain, last, next, counting}
use Rattle.network.proofs.Verdicts.{number_of, one_verdict}
use Rattle.network.proofs.RunAfterRun.{run_on}
use Rattle.network.proofs.Whole.{ready_runs, whole_done, enough_done}
use Rattle.network.proofs.prepare.Kinds as preparing
use Rattle.network.proofs.prepare.Reads.{Post as Prepares}
use Rattle.network.proofs.run.Kinds as running
use Rattle.network.proofs.run.Reads.{Post as Runs}
use Rattle.network.proofs.refine.Kinds as refining
use Rattle.network.proofs.refine.Reads.{Post as Refines}

-- ---- counts

counting_own : (verdict : Verdict) → counting (answer_of verdict).count verdict ≡ verdict
counting_own (Ok outcome) = refl
counting_own (Err (Refused (Region i) r)) = refl
counting_own (Err (Refused (Pair i j) r)) = refl
counting_own (Err (Refused (Triple i k j) r)) = refl
counting_own (Err (Unfinished r a)) = refl
counting_own (Err Unprepared) = refl
counting_own (Err OutOfRange) = refl
counting_own (Err WrongLength) = refl

counting-again : (verdict : Verdict) (a b : ℕ)
    → counting (a + (answer_of (counting b verdict)).count) (counting b verdict) ≡ counting (a + b) verdict
counting-again (Ok outcome) a b = refl
counting-again (Err (Refused (Region i) r)) a b = refl
counting-again (Err (Refused (Pair i j) r)) a b = refl
counting-again (Err (Refused (Triple i k j) r)) a b = refl
counting-again (Err (Unfinished r x)) a b = refl
counting-again (Err Unprepared) a b = refl
counting-again (Err OutOfRange) a b = refl
counting-again (Err WrongLength) a b = refl

counting-number : (verdict : Verdict) (k : ℕ) → (answer_of (counting k verdict)).number ≡ (answer_of verdict).number
counting-number (Ok outcome) k = refl
counting-number (Err (Refused (Region i) r)) k = refl
counting-number (Err (Refused (Pair i j) r)) k = refl
counting-number (Err (Refused (Triple i l j) r)) k = refl
counting-number (Err (Unfinished r x)) k = refl
counting-number (Err Unprepared) k = refl
counting-number (Err OutOfRange) k = refl
counting-number (Err WrongLength) k = refl

-- ---- all calls together are one

pub chain_one_run : {n : ℕ} {from : Area} {first second shares first' second' : List ℕ} {counted : ℕ} {verdict : Verdict}
    → Chain n from first second shares counted verdict first' second'
    → Ran n from (total shares) first second first' second' (counting counted verdict)
unfolding total
chain_one_run {n} {from} {first} {second} (last {most = most} {first' = first'} {second' = second'} {verdict = verdict} call e) =
    rw (e, add-zero most, counting_own verdict) call
chain_one_run {n} {from} {first} {second} {shares} {first'} {second'}
    (next {most = most} {rounds = count} {shares = others} {others = counted} {verdict = verdict} call rest e) =
    let one : Ran n from (most + total others) first second first' second' (counting (count + (answer_of (counting counted verdict)).count) (counting counted verdict)) =
    run_on call (chain_one_run rest) in
    rw e (rw (counting-again verdict count counted) at one)

-- ---- after a preparation that is ready

module _ {n : ℕ} {cells first second first₁ second₁ : List ℕ}
    (start : Prepared n cells first second first₁ second₁ (Ok tt)) {shares first' second' : List ℕ} {counted : ℕ} {verdict : Verdict}
    (chain : Chain n First first₁ second₁ shares counted verdict first' second') where
  one : Ran n First (total shares) first₁ second₁ first' second' (counting counted verdict)
  one = chain_one_run chain

  answers : answer_of (counting counted verdict) ≡ answered_from First (rounds (total shares) n 0 (prepared n cells))
  answers = one.answer ∙ ap (answered_from First) (ready_runs start (total shares))

  numbers : (answer_of verdict).number ≡ (answered_from First (rounds (total shares) n 0 (prepared n cells))).number
  numbers = sym (counting-number verdict counted) ∙ ap number_of answers

  -- where the last call is not used up, its verdict with the counts added up and what it leaves in both areas are what `refine` promises
  pub shared_out_calls : ((answer_of verdict).number ≡ 24 → ⊥) → Refined n cells first second first' second' (counting counted verdict)
  shared_out_calls h = whole_done start (unused (rounds_ended (total shares) n (prepared n cells)) (λ e. h (numbers ∙ e))) one
    where
      unused : {most : ℕ} {ending : Ending (List ℕ)} → RoundsEnd most ending → ((answered_from First ending).number ≡ 24 → ⊥)
          → is_used_up ending ≡ false
      unused (at_network network k) u = refl
      unused (at_triple i k j l) u = refl
      unused at_last u = absurd (u refl)

  -- so they are those of `refine`
  pub shared_out_as_whole : {first'' second'' : List ℕ} {whole : Verdict} → ((answer_of verdict).number ≡ 24 → ⊥)
      → Refined n cells first second first'' second'' whole → (counting counted verdict ≡ whole) × (first' ≡ first'') × (second' ≡ second'')
  shared_out_as_whole {whole = whole} h call =
      let mine = shared_out_calls h in (
        one_verdict n _ (counting counted verdict) whole mine.names call.names mine.answer call.answer,
        mine.in_first ∙ sym call.in_first,
        mine.in_second ∙ sym call.in_second,
      )

  -- and with more rounds in all than can change something the last call is never used up
  pub enough_shared_out : most_rounds n < total shares → (answer_of verdict).number ≡ 24 → ⊥
  enough_shared_out h e =
      used (rounds_ended (total shares) n (prepared n cells)) (enough_done start h) (sym numbers ∙ e)
    where
      used : {most : ℕ} {ending : Ending (List ℕ)} → RoundsEnd most ending → is_used_up ending ≡ false
          → (answered_from First ending).number ≡ 24 → ⊥
      used (at_network network k) u z = omega (arith, z)
      used (at_triple i k j l) u z = omega (arith, z)
      used at_last u z = true≢false u

-- ---- the same of what the contracts of the calls promise

-- a call of `run` is the last of a chain
pub call_last : (κs : Lfts 2) (a : Dens κs running.ps) (r : (res_t running.r κs).Denot) (s : AtExit (ended_of 2 running.ps running.r) κs)
    → Runs κs a r s
    → Chain a.0 a.1.0 a.1.1.1.0.now a.1.1.1.1.0.now (a.1.1.0 ∷ []) (answer_of r).count r s.1.1.1.0.now
    s.1.1.1.1.0.now
call_last κs a r s call = last call refl

-- or stands before one that starts from the area that it named, with the areas as it left them
pub call_next : (κs : Lfts 2) (a : Dens κs running.ps) (r : (res_t running.r κs).Denot) (s : AtExit (ended_of 2 running.ps running.r) κs)
    (count : ℕ) (area : Area) {shares first' second' : List ℕ} {others : ℕ} {verdict : Verdict} → Runs κs a r s → r ≡ Err (Unfinished count area)
    → Chain a.0 area s.1.1.1.0.now s.1.1.1.1.0.now shares others verdict first' second'
    → Chain a.0 a.1.0 a.1.1.1.0.now a.1.1.1.1.0.now (a.1.1.0 ∷ shares) (count + others) verdict first' second'
call_next κs a r s count area call e rest = next (rw e at call) rest refl

-- such calls from what a ready `prepare` left, the last not used up, beside a call of `refine` on the same cells and areas: the same
-- verdict with the counts added up, and the same bytes in both areas
pub calls_shared_out : (κs : Lfts 3) (a : Dens κs preparing.ps) (r : (res_t preparing.r κs).Denot)
    (s : AtExit (ended_of 3 preparing.ps preparing.r) κs) (μs : Lfts 3) (b : Dens μs refining.ps) (whole : (res_t refining.r μs).Denot)
    (t : AtExit (ended_of 3 refining.ps refining.r) μs) {shares first' second' : List ℕ} {counted : ℕ} {verdict : Verdict}
    → Prepares κs a r s → r ≡ Ok tt → Chain a.0 First s.1.1.0.now s.1.1.1.0.now shares counted verdict first' second'
    → ((answer_of verdict).number ≡ 24 → ⊥) → Refines μs b whole t → b.0 ≡ a.0 → b.1.0.now ≡ a.1.0.now
    → b.1.1.0.now ≡ a.1.1.0.now → b.1.1.1.0.now ≡ a.1.1.1.0.now
    → (counting counted verdict ≡ whole) × (first' ≡ t.1.1.0.now) × (second' ≡ t.1.1.1.0.now)
calls_shared_out κs a r s μs b whole t start e chain h call n cells f g =
    shared_out_as_whole (rw e at start) chain h (rw (n, cells, f, g) at call)
