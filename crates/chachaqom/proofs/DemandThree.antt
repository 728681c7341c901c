-- Demand 3 about the call for C, from what its contract says: the number is 0 exactly when there is a network within the stated sets,
-- and then both areas hold the largest in front.
use mathlib.Core.Path.{◌≡◌, refl, sym, ap, ◌∙◌}
use mathlib.Core.List.{List}
use Prim.Native.Nat.{ℕ, ◌*◌}
use native.Mathlib.Omega.{arith}
use borrow.Author.Tests.{eq-eqb}
use borrow.Fn.Kinds.{Dens, res_t, ended_of}
use contract.Lifetimes.{Lfts}
use denote.Triple.Clauses.{AtExit}
use lib.ListN.{length, take}
use lib.Seq.{take_all}
use Rattle.lists.proofs.LaidLaws.{take-laid}
use Rattle.answer.specs.Answer.{Answer}
use Rattle.answer.specs.Ending.{Ending, accepted, refused, answered, Accepted}
use Rattle.answer.specs.Bytes.{left_with}
use Rattle.refinement.specs.Ends.{Ends, NamesRegions, a_region, a_pair, a_triple}
use Rattle.refinement.specs.InRange.{InRange}
use Rattle.refinement.specs.Network.{Largest}
use Rattle.refinement.specs.Refine.{refined}
use Rattle.refinement.proofs.Demand.{refined_ends, accepted-largest, accepted_exactly}
use Rattle.network.specs.Refined.{leaves}
use Rattle.chachaqom.specs.RefineExport.{RefineExport}
use Rattle.chachaqom.specs.RefineDemand.{RefineDemand}
use Rattle.chachaqom.proofs.refine.chachaqom_refine.Kinds as refining
use Rattle.chachaqom.proofs.refine.chachaqom_refine.Reads.{Post as Refines}

-- a refusal of the refinement has a number
named : {n : ℕ} {numbers : Answer} → NamesRegions n numbers → numbers.number ≡ 0 → ⊥
named (a_region x) z = omega (arith, x.number)
named (a_pair x) z = omega (arith, x.number)
named (a_triple x) z = omega (arith, x.number)

-- an ending with the number 0 is an acceptance
by_number : (n : ℕ) (m : List ℕ) (ending : Ending (List ℕ)) → Ends n m ending → (answered ending).number ≡ 0 → Accepted ending
by_number n m (accepted network count) x e = record { given = network; count = count; is = refl }
by_number n m (refused numbers) x e = absurd (named x.names e)

module _ {n : ℕ} {cells first second answer first' second' answer' : List ℕ} {number : ℕ}
    (call : RefineExport n cells first second answer first' second' answer' number) (fit : length answer ≡ 20)
    (range : InRange n cells (length first) (length second)) where
  abbrev ending : Ending (List ℕ)
  ending = refined n cells (length first) (length second)

  numbered : number ≡ (answered ending).number
  numbered = call.answers.returned ∙ rw (eq-eqb (length answer) 20 fit)

  an_acceptance : number ≡ 0 → Accepted ending
  an_acceptance z =
      by_number n cells ending (refined_ends n cells (length first) (length second) range) (sym numbered ∙ z)

  in_front : (z : number ≡ 0) (area area' : List ℕ) → area' ≡ left_with answer (leaves n ending area) area → Largest n cells (take (n * n) area')
  unfolding leaves
  in_front z area area' e =
      let o = an_acceptance z in
      let largest = accepted-largest n cells (length first) (length second) range o.given o.count o.is in
      let left : area' ≡ leaves n (accepted o.given o.count) area =
      e ∙ rw (eq-eqb (length answer) 20 fit) (ap (λ (x : Ending (List ℕ)). leaves n x area) o.is) in
      let long : length o.given ≡ n * n = largest.network.size in
      let front : take (n * n) area' ≡ o.given =
      ap (take (n * n)) left ∙ take-laid (n * n) o.given area (omega arith) ∙ take_all (n * n) o.given (omega arith) in
      rw front largest

  pub export_demand_three : RefineDemand n cells first' second' number
  export_demand_three =
      let exactly = accepted_exactly n cells (length first) (length second) range in
      record {
        network_if = λ z. exactly.0 (an_acceptance z);
        accepted_if = λ e. numbered ∙ ap (λ (x : Ending (List ℕ)). (answered x).number) (exactly.1 e).is;
        first-largest = λ z. in_front z first first' call.in_first;
        second-largest = λ z. in_front z second second' call.in_second;
      }

-- about the call itself: whatever it returns and leaves meets the demand
pub refine_call_demand_three : (κs : Lfts 4) (a : Dens κs refining.ps) (number : (res_t refining.r κs).Denot)
    (s : AtExit (ended_of 4 refining.ps refining.r) κs) → Refines κs a number s → length a.1.1.1.1.0.now ≡ 20
    → InRange a.0 a.1.0.now (length a.1.1.0.now) (length a.1.1.1.0.now)
    → RefineDemand a.0 a.1.0.now s.1.1.0.now s.1.1.1.0.now number
refine_call_demand_three κs a number s call fit range = export_demand_three call fit range
