-- Calls of `run` with at least one round each: after a preparation that is ready there are never more of them than 01's bound on the
-- rounds allows, and where there are as many the last one is not used up.
use mathlib.Core.Path.{◌≡◌}
use mathlib.Core.List.{List}
use Prim.Native.Nat.{ℕ, suc, ◌≤◌, ◌<◌}
use native.Mathlib.Omega.{arith}
use lib.ListN.{length}
use Rattle.std.specs.Prelude.{Ok}
use Rattle.refinement.specs.Refine.{most_rounds}
use Rattle.refinement.specs.Run.{EachSome}
use Rattle.refinement.proofs.Slack.{slack, slack_most}
use Rattle.refinement.proofs.Sharing.{some-total}
use Rattle.network.specs.declared.Area.{Area}
use Rattle.network.specs.declared.Area.TheVariants.{First}
use Rattle.network.specs.Verdict.{Verdict}
use Rattle.network.specs.Numbers.{answer_of}
use Rattle.network.specs.Prepared.{Prepared}
use Rattle.network.specs.Ran.{starts_from}
use Rattle.network.specs.Chain.{Chain, last, next}
use Rattle.network.proofs.RunAfterRun.{continues, next_starts}
use Rattle.network.proofs.SharedOutCalls.{enough_shared_out}

-- every call but the last loses something, so there are at most one more than there is to lose
few_calls : {n : ℕ} {from : Area} {first second shares first' second' : List ℕ} {counted : ℕ} {verdict : Verdict}
    → Chain n from first second shares counted verdict first' second' → EachSome shares
    → length shares ≤ suc (slack n (starts_from n from first second))
few_calls (last call e) some = omega arith
few_calls {n} (next call rest e) some =
    omega (arith, some.0, (continues call).less, rw (next_starts call) at (few_calls rest some.1))

module _ {n : ℕ} {cells first second first₁ second₁ : List ℕ}
    (start : Prepared n cells first second first₁ second₁ (Ok tt)) {shares first' second' : List ℕ} {counted : ℕ} {verdict : Verdict}
    (chain : Chain n First first₁ second₁ shares counted verdict first' second') (some : EachSome shares) where
  pub calls_bound : length shares ≤ suc (most_rounds n)
  calls_bound =
      omega (
        arith,
        few_calls chain some,
        slack_most n (starts_from n First first₁ second₁),
      )

  pub calls_finish : most_rounds n < length shares → (answer_of verdict).number ≡ 24 → ⊥
  calls_finish h = enough_shared_out start chain (omega (arith, some-total shares some))
