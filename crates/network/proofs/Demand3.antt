-- Demand 3 about the calls, from what their contracts say: the verdict is an acceptance exactly when there is a network within the
-- stated sets, and what is handed back is the largest.
use mathlib.Core.Path.{◌≡◌, refl, sym, ap, ◌∙◌, subst}
use mathlib.Core.Bool.{true}
use mathlib.Core.List.{List}
use Prim.Native.Nat.{ℕ, ◌*◌, ◌≤◌}
use native.Mathlib.Omega.{arith}
use borrow.Author.Tests.{le-leb}
use borrow.Fn.Kinds.{Dens, res_t, ended_of}
use contract.Lifetimes.{Lfts}
use denote.Triple.Clauses.{AtExit}
use lib.ListN.{length, take}
use lib.Seq.{take_all}
use Rattle.std.specs.Prelude.{Ok, Err}
use Rattle.answer.specs.Answer.{Answer, accepts}
use Rattle.lists.specs.Laid.{laid}
use Rattle.lists.proofs.LaidLaws.{length-laid, take-laid}
use Rattle.answer.specs.Ending.{Ending, accepted, refused, answered, Accepted as AcceptedEnding}
use Rattle.matrix.proofs.CellLaws.{in_range_lem}
use Rattle.refinement.specs.Refine.{refined}
use Rattle.refinement.specs.InRange.{InRange}
use Rattle.refinement.specs.Network.{Largest}
use Rattle.refinement.specs.Ends.{Ends, NamesRegions, a_region, a_pair, a_triple}
use Rattle.refinement.proofs.Demand.{refined_ends, accepted-largest, accepted_exactly}
use Rattle.network.specs.declared.Area.{Area}
use Rattle.network.specs.declared.Area.TheVariants.{First, Second}
use Rattle.network.specs.Verdict.{Verdict, acceptance}
use Rattle.network.specs.Numbers.{answer_of}
use Rattle.network.specs.Refined.{NamesArea, Refined, leaves}
use Rattle.network.specs.Areas.{chosen}
use Rattle.network.specs.Handed.{Handed, handed, served}
use Rattle.network.specs.Demand.{Accepts, Demand}
use Rattle.network.proofs.Verdicts.{number_of, unrefined_numbered}
use Rattle.network.proofs.refine.Kinds as refining
use Rattle.network.proofs.refine.Reads.{Post as Refines}
use Rattle.network.proofs.network.Kinds as handing
use Rattle.network.proofs.network.Reads.{Post as Hands}

-- ---- the verdict and the ending

-- a verdict with the answer of an acceptance is one
pub accepts_by_answer : (verdict : Verdict) (count : ℕ) → answer_of verdict ≡ accepts count → Accepts verdict
accepts_by_answer (Ok outcome) count e =
    record { regions = outcome.regions; rounds = outcome.rounds; area = outcome.area; is = refl }
accepts_by_answer (Err unrefined) count e = absurd (unrefined_numbered unrefined (ap number_of e))

-- a refusal of the refinement has a number
names-number : {n : ℕ} {numbers : Answer} → NamesRegions n numbers → numbers.number ≡ 0 → ⊥
names-number (a_region x) z = omega (arith, x.number)
names-number (a_pair x) z = omega (arith, x.number)
names-number (a_triple x) z = omega (arith, x.number)

-- an ending with the number of an acceptance is one
ending_by_number : (n : ℕ) (m : List ℕ) (ending : Ending (List ℕ)) → Ends n m ending → (answered ending).number ≡ 0
    → AcceptedEnding ending
ending_by_number n m (accepted network count) x e = record { given = network; count = count; is = refl }
ending_by_number n m (refused numbers) x e = absurd (names-number x.names e)

module _ {n : ℕ} {cells first second first' second' : List ℕ} {verdict : Verdict}
    (range : InRange n cells (length first) (length second))
    (call : Refined n cells first second first' second' verdict) where
  pub accepted-ending : Accepts verdict → AcceptedEnding (refined n cells (length first) (length second))
  accepted-ending a =
      ending_by_number n cells (refined n cells (length first) (length second))
      (refined_ends n cells (length first) (length second) range)
      (ap number_of (sym call.answer ∙ ap answer_of a.is))

  pub accepted_verdict : AcceptedEnding (refined n cells (length first) (length second)) → Accepts verdict
  accepted_verdict o = accepts_by_answer verdict o.count (call.answer ∙ ap answered o.is)

-- ---- what is handed back

-- where the network was laid in front of both areas, either of them hands it back
module _ (n : ℕ) (network first second first' second' : List ℕ) (some : 1 ≤ n) (few : n ≤ 64) (l : length network ≡ n * n)
    (x : n * n ≤ length first) (y : n * n ≤ length second) (f : first' ≡ laid (n * n) network first)
    (g : second' ≡ laid (n * n) network second) where
  long : (area area' : List ℕ) → n * n ≤ length area → area' ≡ laid (n * n) network area → n * n ≤ length area'
  long area area' h e = omega (arith, ap length e ∙ length-laid (n * n) network area (omega arith) h)

  serves : served n first' second' ≡ true
  serves =
      rw (
        in_range_lem n some few,
        le-leb (n * n) (length first') (long first first' x f),
        le-leb (n * n) (length second') (long second second' y g),
      )

  front : (area area' : List ℕ) → area' ≡ laid (n * n) network area → take (n * n) area' ≡ network
  front area area' e = rw e (take-laid (n * n) network area (omega arith) ∙ take_all (n * n) network (omega arith))

  either : (area : Area) → take (n * n) (chosen area first' second') ≡ network
  either First = front first first' f
  either Second = front second second' g

  handed_front : (rounds : ℕ) (area : Area) → handed first' second' (acceptance n rounds area) ≡ network
  handed_front rounds area = rw serves (either area)

module _ {n : ℕ} {cells first second first' second' : List ℕ} {verdict : Verdict}
    (range : InRange n cells (length first) (length second))
    (call : Refined n cells first second first' second' verdict) (a : Accepts verdict) where
  abbrev ending : AcceptedEnding (refined n cells (length first) (length second))
  ending = accepted-ending range call a

  pub network-largest : Largest n cells (accepted-ending range call a).given
  network-largest =
      accepted-largest n cells (length first) (length second) range ending.given ending.count ending.is

  left_in : (area area' : List ℕ) → area' ≡ leaves n (refined n cells (length first) (length second)) area
      → area' ≡ laid (n * n) ending.given area
  unfolding leaves
  left_in area area' e = e ∙ ap (λ (o : Ending (List ℕ)). leaves n o area) ending.is

  -- what is handed back is the accepted network
  pub handed-network : handed first' second' verdict ≡ (accepted-ending range call a).given
  handed-network =
      ap (handed first' second') (a.is ∙ ap (λ (k : ℕ). acceptance k a.rounds a.area) (subst (NamesArea n) a.is call.names).0)
      ∙ handed_front n ending.given first second first' second' range.square.some range.square.few network-largest.network.size
      range.first-long range.second-long (left_in first first' call.in_first) (left_in second second' call.in_second)
      a.rounds a.area

-- ---- the demand

pub demand_three : {n : ℕ} {cells first second first' second' part : List ℕ} {verdict : Verdict} {X : Type 0} {atFirst atSecond atPart : X}
    → InRange n cells (length first) (length second) → Refined n cells first second first' second' verdict
    → Handed first' second' atFirst atSecond verdict part atPart → Demand n cells verdict part
demand_three {n} {cells} {first} {second} range call back =
    let exactly = accepted_exactly n cells (length first) (length second) range in
    record {
      network_if = λ a. exactly.0 (accepted-ending range call a);
      accepted_if = λ e. accepted_verdict range call (exactly.1 e);
      handed-largest = λ a. rw (back.bytes ∙ handed-network range call a) (network-largest range call a);
    }

-- the same of what the contracts of the two calls promise, where `network` is lent the areas as `refine` left them
pub calls_meet_demand_three : (κs : Lfts 3) (a : Dens κs refining.ps) (verdict : (res_t refining.r κs).Denot)
    (s : AtExit (ended_of 3 refining.ps refining.r) κs) (μs : Lfts 1) (b : Dens μs handing.ps) (part : (res_t handing.r μs).Denot)
    (t : AtExit (ended_of 1 handing.ps handing.r) μs) → Refines κs a verdict s → Hands μs b part t
    → b.0.now ≡ s.1.1.0.now → b.1.0.now ≡ s.1.1.1.0.now → b.1.1.0 ≡ verdict
    → InRange a.0 a.1.0.now (length a.1.1.0.now) (length a.1.1.1.0.now)
    → Demand a.0 a.1.0.now verdict part.now
calls_meet_demand_three κs a verdict s μs b part t call back e f g range = demand_three range call (rw (e, f, g) at back)
