-- What else follows about the calls: how many rounds were made, which places a refusal names, and that a network that is refined
-- again stays as it is.
use mathlib.Core.Path.{◌≡◌, refl, ap, ◌∙◌}
use mathlib.Core.List.{List}
use Prim.Native.Nat.{ℕ}
use lib.ListN.{length}
use Rattle.answer.specs.Answer.{Answer, accepts}
use Rattle.answer.specs.Ending.{Ending, accepted, refused, answered}
use Rattle.refinement.specs.Refine.{refined}
use Rattle.refinement.specs.InRange.{InRange}
use Rattle.refinement.specs.Network.{Network}
use Rattle.refinement.specs.Ends.{Ends, NamesRegions, a_region, a_pair, a_triple}
use Rattle.refinement.proofs.Limits.{refined_in_range}
use Rattle.refinement.proofs.Demand.{refined_ends}
use Rattle.refinement.proofs.Consequences.{refine-network}
use Rattle.network.specs.declared.Area.TheVariants.{First, Second}
use Rattle.network.specs.Verdict.{Verdict, acceptance}
use Rattle.network.specs.Refined.{Refined}
use Rattle.network.specs.Handed.{Handed}
use Rattle.network.specs.Demand.{Accepts}
use Rattle.network.specs.Carries.{Carries}
use Rattle.network.specs.Again.{Again}
use Rattle.network.proofs.Verdicts.{contradiction_of, unrefined_of, verdict_of, verdict_back, names-whole, one_verdict}
use Rattle.network.proofs.Demand3.{accepted-ending, handed-network, demand_three}

-- ---- what a verdict carries

named : {n : ℕ} {numbers : Answer} → NamesRegions n numbers → Carries n (verdict_of n First numbers)
unfolding verdict_of unrefined_of contradiction_of
named (a_region x) =
    rw x.number (record { number = refl; inside = x.inside; second = refl; third = refl; counted = x.counted })
named (a_pair x) =
    rw x.number (record { number = refl; order = x.order; inside = x.inside; third = refl; counted = x.counted })
named (a_triple x) = rw x.number (record { number = refl; three = x.three; few = x.few })

carried : (n : ℕ) (m : List ℕ) (ending : Ending (List ℕ)) → Ends n m ending → Carries n (verdict_of n First (answered ending))
unfolding verdict_of unrefined_of contradiction_of
carried n m (accepted network count) x = x.few
carried n m (refused numbers) x = named x.names

pub refine_carries : {n : ℕ} {cells first second first' second' : List ℕ} {verdict : Verdict}
    → InRange n cells (length first) (length second) → Refined n cells first second first' second' verdict
    → Carries n verdict
refine_carries {n} {cells} {first} {second} {first'} {second'} {verdict} range call =
    rw (verdict_back n First verdict (names-whole n verdict call.names) ∙ ap (verdict_of n First) call.answer)
    (carried n cells (refined n cells (length first) (length second)) (refined_ends n cells (length first) (length second) range))

-- ---- refining again

pub network-again : {n : ℕ} {m network first second first' second' part : List ℕ} {verdict : Verdict}
    {X : Type 0} {atFirst atSecond atPart : X}
    → Network n m network → InRange n network (length first) (length second) → Refined n network first second first' second' verdict
    → Handed first' second' atFirst atSecond verdict part atPart → Again n network verdict part
network-again {n} {m} {network} {first} {second} {first'} {second'} {part} {verdict} N range call back =
    let ends : refined n network (length first) (length second) ≡ accepted network 0 = refined_in_range range ∙ refine-network N in
    let e : verdict ≡ acceptance n 0 Second =
    one_verdict n (accepts 0) verdict (acceptance n 0 Second) call.names (refl, refl) (call.answer ∙ ap answered ends) refl in
    let a : Accepts verdict = record { regions = n; rounds = 0; area = Second; is = e } in
    let o = accepted-ending range call a in
    record {
      accepts = e;
      same = back.bytes ∙ handed-network range call a ∙ same-network o.given network o.is ends;
    }
  where
    same-network : {ending : Ending (List ℕ)} {count rounds : ℕ} (one other : List ℕ) → ending ≡ accepted one count
        → ending ≡ accepted other rounds → one ≡ other
    same-network one other p q = cc

-- what an accepting call hands back stays as it is
pub handed-again : {n : ℕ} {cells first second first' second' part third fourth third' fourth' part' : List ℕ} {verdict verdict' : Verdict}
    {X : Type 0} {atFirst atSecond atPart atThird atFourth atPart' : X}
    → InRange n cells (length first) (length second) → Refined n cells first second first' second' verdict
    → Handed first' second' atFirst atSecond verdict part atPart → Accepts verdict
    → InRange n part (length third) (length fourth) → Refined n part third fourth third' fourth' verdict'
    → Handed third' fourth' atThird atFourth verdict' part' atPart' → Again n part verdict' part'
handed-again range call back a range' call' back' =
    network-again ((demand_three range call back).handed-largest a).network range' call' back'
