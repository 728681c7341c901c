-- A verdict from its numbers: the answer, the number of regions and the area that the rounds began in leave no choice. The same of a start.
use mathlib.Core.Path.{◌≡◌, refl, sym, ap, ap₂, ◌∙◌}
use mathlib.Core.Bool.{cond}
use Prim.Native.Nat.{ℕ}
use native.Mathlib.Omega.{arith}
use lib.Dec.{eqb}
use Rattle.std.specs.Prelude.{Ok, Err}
use Rattle.region.specs.Lookup.{place}
use Rattle.answer.specs.Answer.{Answer}
use Rattle.network.specs.declared.Area.{Area}
use Rattle.network.specs.declared.Area.TheVariants.{First, Second}
use Rattle.refinement.specs.declared.Contradiction.{Contradiction}
use Rattle.refinement.specs.declared.Contradiction.TheVariants.{Region, Pair, Triple}
use Rattle.network.specs.declared.Unrefined.{Unrefined}
use Rattle.network.specs.Verdict.{Verdict, Start, acceptance}
use Rattle.network.specs.declared.Unrefined.TheVariants.{Refused, Unfinished, Unprepared, OutOfRange, WrongLength}
use Rattle.network.specs.Areas.{other, holds}
use Rattle.network.specs.Numbers.{answer_of, answer_of_start}
use Rattle.network.specs.Refined.{NamesArea}
use Rattle.network.specs.Ran.{NamesFrom}

-- the number of an answer
abbrev pub number_of : Answer → ℕ
number_of a = a.number

-- only an acceptance goes without a number
pub unrefined_numbered : (unrefined : Unrefined) → (answer_of (Err unrefined)).number ≡ 0 → ⊥
unrefined_numbered (Refused (Region i) rounds) e = omega (arith, e)
unrefined_numbered (Refused (Pair i j) rounds) e = omega (arith, e)
unrefined_numbered (Refused (Triple i k j) rounds) e = omega (arith, e)
unrefined_numbered (Unfinished rounds area) e = omega (arith, e)
unrefined_numbered Unprepared e = omega (arith, e)
unrefined_numbered OutOfRange e = omega (arith, e)
unrefined_numbered WrongLength e = omega (arith, e)

-- the contradiction with these numbers
unfoldable pub contradiction_of : Answer → Contradiction
contradiction_of a =
    cond (eqb a.number 21) (Region (place a.first))
    (cond (eqb a.number 22) (Pair (place a.first) (place a.second))
    (Triple (place a.first) (place a.second) (place a.third)))

unfoldable pub unrefined_of : Answer → Unrefined
unrefined_of a =
    cond (eqb a.number 1) OutOfRange
    (cond (eqb a.number 2) WrongLength
    (cond (eqb a.number 24) (Unfinished a.count (cond (eqb a.first 1) First Second))
    (cond (eqb a.number 25) Unprepared (Refused (contradiction_of a) a.count))))

-- the verdict with this answer about n regions, of rounds from this area
unfoldable pub verdict_of : ℕ → Area → Answer → Verdict
verdict_of n from a = cond (eqb a.number 0) (acceptance n a.count (holds (other from) a.count)) (Err (unrefined_of a))

pub verdict_back : (n : ℕ) (from : Area) (verdict : Verdict) → NamesFrom n from verdict → verdict ≡ verdict_of n from (answer_of verdict)
unfolding verdict_of unrefined_of contradiction_of
verdict_back n from (Ok outcome) names = ap₂ (λ (x : ℕ) (y : Area). acceptance x outcome.rounds y) names.0 names.1
verdict_back n from (Err (Refused (Region i) rounds)) names = refl
verdict_back n from (Err (Refused (Pair i j) rounds)) names = refl
verdict_back n from (Err (Refused (Triple i k j) rounds)) names = refl
verdict_back n from (Err (Unfinished rounds First)) names = refl
verdict_back n from (Err (Unfinished rounds Second)) names = refl
verdict_back n from (Err Unprepared) names = refl
verdict_back n from (Err OutOfRange) names = refl
verdict_back n from (Err WrongLength) names = refl

-- verdicts with the same answer about the same n regions, of rounds from the same area, are the same
pub one_verdict_from : (n : ℕ) (from : Area) (a : Answer) (verdict other : Verdict) → NamesFrom n from verdict → NamesFrom n from other
    → answer_of verdict ≡ a → answer_of other ≡ a → verdict ≡ other
one_verdict_from n from a verdict other names names' e f =
    verdict_back n from verdict names ∙ ap (verdict_of n from) (e ∙ sym f) ∙ sym (verdict_back n from other names')

-- the whole refinement makes its rounds from the first area
pub names-whole : (n : ℕ) (verdict : Verdict) → NamesArea n verdict → NamesFrom n First verdict
names-whole n (Ok outcome) names = names
names-whole n (Err unrefined) names = tt

pub names-first : (n : ℕ) (verdict : Verdict) → NamesFrom n First verdict → NamesArea n verdict
names-first n (Ok outcome) names = names
names-first n (Err unrefined) names = tt

pub one_verdict : (n : ℕ) (a : Answer) (verdict other : Verdict) → NamesArea n verdict → NamesArea n other → answer_of verdict ≡ a → answer_of other ≡ a
    → verdict ≡ other
one_verdict n a verdict other names names' =
    one_verdict_from n First a verdict other (names-whole n verdict names) (names-whole n other names')

-- ---- a start

unfoldable start_of : Answer → Start
start_of a = cond (eqb a.number 0) (Ok tt) (Err (unrefined_of a))

start_back : (start : Start) → start ≡ start_of (answer_of_start start)
unfolding start_of unrefined_of contradiction_of
start_back (Ok ready) = refl
start_back (Err (Refused (Region i) rounds)) = refl
start_back (Err (Refused (Pair i j) rounds)) = refl
start_back (Err (Refused (Triple i k j) rounds)) = refl
start_back (Err (Unfinished rounds First)) = refl
start_back (Err (Unfinished rounds Second)) = refl
start_back (Err Unprepared) = refl
start_back (Err OutOfRange) = refl
start_back (Err WrongLength) = refl

-- starts with the same answer are the same
pub one_start : (a : Answer) (start other : Start) → answer_of_start start ≡ a → answer_of_start other ≡ a → start ≡ other
one_start a start other e f = start_back start ∙ ap start_of (e ∙ sym f) ∙ sym (start_back other)
