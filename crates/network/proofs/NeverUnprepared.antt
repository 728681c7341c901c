-- A run from the area that a 24 named, or from what a ready preparation left, is never refused with 25, nor with 1 or 2.
use mathlib.Core.Path.{◌≡◌, sym, ap, ◌∙◌}
use mathlib.Core.List.{List}
use Prim.Native.Nat.{ℕ}
use native.Mathlib.Omega.{arith}
use contract.Lifetimes.{Lfts}
use denote.Triple.Clauses.{AtExit}
use borrow.Fn.Kinds.{Dens, res_t, ended_of}
use Rattle.std.specs.Prelude.{Ok, Err}
use Rattle.refinement.specs.Prepare.{prepared}
use Rattle.refinement.specs.Refine.{rounds}
use Rattle.refinement.specs.Run.{after_rounds}
use Rattle.refinement.proofs.Sharing.{rounds_ended}
use Rattle.network.specs.declared.Area.{Area}
use Rattle.network.specs.declared.Area.TheVariants.{First}
use Rattle.network.specs.Verdict.{Verdict}
use Rattle.network.specs.declared.Unrefined.TheVariants.{Unfinished}
use Rattle.network.specs.Numbers.{answer_of}
use Rattle.network.specs.Prepared.{Prepared}
use Rattle.network.specs.Ran.{answered_from, starts_from, Ran}
use Rattle.network.specs.Made.{Made}
use Rattle.network.proofs.Verdicts.{number_of}
use Rattle.network.proofs.RunAfterRun.{ends_number, next_runs}
use Rattle.network.proofs.Whole.{ready_runs}
use Rattle.network.proofs.prepare.Kinds as preparing
use Rattle.network.proofs.prepare.Reads.{Post as Prepares}
use Rattle.network.proofs.run.Kinds as running
use Rattle.network.proofs.run.Reads.{Post as Runs}

made : (from : Area) (most n : ℕ) (m : List ℕ) (verdict : Verdict) → answer_of verdict ≡ answered_from from (rounds most n 0 m) → Made verdict
made from most n m verdict e = record {
  prepared = λ z. never 25 (ap (λ (v : Verdict). (answer_of v).number) (sym z)) (λ y. omega (arith, y)) (λ y. omega (arith, y)) (λ y. omega (arith, y));
  in_range = λ z. never 1 (ap (λ (v : Verdict). (answer_of v).number) (sym z)) (λ y. omega (arith, y)) (λ y. omega (arith, y)) (λ y. omega (arith, y));
  long_enough = λ z. never 2 (ap (λ (v : Verdict). (answer_of v).number) (sym z)) (λ y. omega (arith, y)) (λ y. omega (arith, y)) (λ y. omega (arith, y));
}
  where
    never : (k : ℕ) → k ≡ (answer_of verdict).number → (k ≡ 0 → ⊥) → (k ≡ 23 → ⊥) → (k ≡ 24 → ⊥) → ⊥
    never k z = ends_number from k (rounds_ended most n m) (z ∙ ap number_of e)

-- after a 24
pub unfinished_goes_on : {n : ℕ} {from area : Area} {most others count : ℕ} {first second first₁ second₁ first' second' : List ℕ} {verdict : Verdict}
    → Ran n from most first second first₁ second₁ (Err (Unfinished count area))
    → Ran n area others first₁ second₁ first' second' verdict → Made verdict
unfinished_goes_on {n} {from} {area} {most} {others} {first = first} {second = second} {verdict = verdict} call run =
    made area others n (after_rounds most n (starts_from n from first second)) verdict
    (run.answer ∙ ap (answered_from area) (next_runs call others))

-- after a preparation
pub ready_goes_on : {n : ℕ} {most : ℕ} {cells first second first₁ second₁ first' second' : List ℕ} {verdict : Verdict}
    → Prepared n cells first second first₁ second₁ (Ok tt) → Ran n First most first₁ second₁ first' second' verdict → Made verdict
ready_goes_on {n} {most} {cells} {verdict = verdict} start run =
    made First most n (prepared n cells) verdict (run.answer ∙ ap (answered_from First) (ready_runs start most))

-- ---- the same of what the contracts of the calls promise

-- where a second `run` is lent the areas as the first left them, with the n and the area that it answered
pub calls_go_on : (κs : Lfts 2) (a : Dens κs running.ps) (r : (res_t running.r κs).Denot) (s : AtExit (ended_of 2 running.ps running.r) κs)
    (μs : Lfts 2) (b : Dens μs running.ps) (verdict : (res_t running.r μs).Denot) (t : AtExit (ended_of 2 running.ps running.r) μs)
    (count : ℕ) (area : Area) → Runs κs a r s → Runs μs b verdict t → r ≡ Err (Unfinished count area) → b.0 ≡ a.0 → b.1.0 ≡ area
    → b.1.1.1.0.now ≡ s.1.1.1.0.now → b.1.1.1.1.0.now ≡ s.1.1.1.1.0.now → Made verdict
calls_go_on κs a r s μs b verdict t count area call run e n f g h =
    unfinished_goes_on (rw e at call) (rw (n, f, g, h) at run)

-- where `run` is lent the areas as a ready `prepare` left them, with its n and the first area
pub prepared_call_goes_on : (κs : Lfts 3) (a : Dens κs preparing.ps) (r : (res_t preparing.r κs).Denot)
    (s : AtExit (ended_of 3 preparing.ps preparing.r) κs) (μs : Lfts 2) (b : Dens μs running.ps) (verdict : (res_t running.r μs).Denot)
    (t : AtExit (ended_of 2 running.ps running.r) μs) → Prepares κs a r s → Runs μs b verdict t → r ≡ Ok tt → b.0 ≡ a.0 → b.1.0 ≡ First
    → b.1.1.1.0.now ≡ s.1.1.0.now → b.1.1.1.1.0.now ≡ s.1.1.1.0.now → Made verdict
prepared_call_goes_on κs a r s μs b verdict t start run e n f g h =
    ready_goes_on (rw e at start) (rw (n, f, g, h) at run)
