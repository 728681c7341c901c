-- What a verdict tells of the refinement: an acceptance hands its network back, and any other verdict is the refusal.
use mathlib.Core.Path.{◌≡◌, refl, sym, ap, ap₂, ◌∙◌}
use mathlib.Core.List.{List}
use Prim.Native.Nat.{ℕ}
use native.Mathlib.Omega.{arith}
use lib.ListN.{length}
use Rattle.std.proofs.Common.{Ok, Err}
use Rattle.answer.specs.Answer.{Answer}
use Rattle.answer.specs.Ending.{Ending, accepted, refused, answered}
use Rattle.refinement.specs.InRange.{InRange}
use Rattle.refinement.specs.Network.{Largest}
use Rattle.refinement.specs.Refine.{refine}
use Rattle.refinement.proofs.Limits.{refined_in_range}
use Rattle.refinement.specs.declared.Contradiction.{Contradiction}
use Rattle.refinement.specs.declared.Contradiction.TheVariants.{Region, Pair, Triple}
use Rattle.network.specs.declared.Accepted.{Accepted}
use Rattle.network.specs.declared.Unrefined.{Unrefined}
use Rattle.network.specs.declared.Unrefined.TheVariants.{Refused, Unfinished, Unprepared, OutOfRange, WrongLength}
use Rattle.network.specs.Verdict.{Verdict}
use Rattle.network.specs.Numbers.{answer_of}
use Rattle.network.specs.Refined.{Refined}
use Rattle.network.specs.Handed.{Handed}
use Rattle.network.specs.Demand.{Accepts}
use Rattle.network.proofs.Demand3.{accepted-ending, network-largest, handed-network}
use Rattle.report_text.specs.Contradicts.{Contradicts}
use Rattle.report_text.specs.Report.{answer_line, refined_report}

-- the network that an acceptance hands back, after so many rounds
pub record HandedBack (n : ℕ) (stated : List ℕ) (rounds : ℕ) (network : List ℕ) : Type 0 where
  pub ending : refine n stated ≡ accepted network rounds
  pub largest : Largest n stated network

module _ {n : ℕ} {stated first second first' second' : List ℕ} {verdict : Verdict}
    (range : InRange n stated (length first) (length second))
    (call : Refined n stated first second first' second' verdict) where
  pub handed-back : {part : List ℕ} {outcome : Accepted} {at_first at_second at_part : ℕ × ℕ}
      → verdict ≡ Ok outcome → Handed first' second' at_first at_second verdict part at_part
      → HandedBack n stated outcome.rounds part
  handed-back {part} {outcome} e back =
      let a : Accepts verdict = record { regions = outcome.regions; rounds = outcome.rounds; area = outcome.area; is = e } in
      let o = accepted-ending range call a in
      let counted : o.count ≡ outcome.rounds =
      ap (λ (x : Answer). x.count) (sym (ap answered o.is) ∙ sym call.answer ∙ ap answer_of e) in
      let same : part ≡ o.given = back.bytes ∙ handed-network range call a in
      record {
        ending = sym (refined_in_range range) ∙ o.is ∙ ap₂ (λ (w : List ℕ) (c : ℕ). accepted w c) (sym same) counted;
        largest = rw same (network-largest range call a);
      }

  -- the line of any other verdict is the report
  pub refused_report : (identifiers marks : List ℕ) → ((answer_of verdict).number ≡ 0 → ⊥)
      → answer_line identifiers (answer_of verdict) ≡ refined_report n identifiers stated marks (refine n stated)
  refused_report identifiers marks z = of_ending (refine n stated) (call.answer ∙ ap answered (refined_in_range range))
    where
      of_ending : (ending : Ending (List ℕ)) → answer_of verdict ≡ answered ending
          → answer_line identifiers (answer_of verdict) ≡ refined_report n identifiers stated marks ending
      of_ending (accepted network count) q = absurd (z (ap (λ (x : Answer). x.number) q))
      of_ending (refused numbers) q = ap (answer_line identifiers) q

-- the line of a contradiction does not tell the rounds
pub contradiction_line : (identifiers : List ℕ) (contradiction : Contradiction) (rounds : ℕ)
    → answer_line identifiers (answer_of (Err (Refused contradiction 0))) ≡ answer_line identifiers (answer_of (Err (Refused contradiction rounds)))
contradiction_line identifiers (Region i) rounds = refl
contradiction_line identifiers (Pair i j) rounds = refl
contradiction_line identifiers (Triple i k j) rounds = refl

-- and a contradiction has a number
pub contradicted : (unrefined : Unrefined) → Contradicts unrefined → (answer_of (Err unrefined)).number ≡ 0 → ⊥
contradicted (Refused (Region i) rounds) c e = omega arith
contradicted (Refused (Pair i j) rounds) c e = omega arith
contradicted (Refused (Triple i k j) rounds) c e = omega arith
contradicted (Unfinished rounds area) c e = c
contradicted Unprepared c e = c
contradicted OutOfRange c e = c
contradicted WrongLength c e = c
