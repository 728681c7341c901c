-- What a run promises: its verdict and every byte of both areas.
use Rattle.std.specs.Prelude.{◌≡◌, Bool, cond, List, ℕ, zero, suc, ◌*◌, eqb, length, take, replicate, Ok, Err}
use Rattle.lists.specs.Laid.{laid}
use Rattle.answer.specs.Answer.{Answer, answer, accepts}
use Rattle.answer.specs.Ending.{Ending, accepted, refused}
use Rattle.refinement.specs.Run.{ran, after_rounds}
use Rattle.network.specs.declared.Area.{Area}
use Rattle.network.specs.declared.Area.TheVariants.{First, Second}
use Rattle.network.specs.Verdict.{Verdict}
use Rattle.network.specs.Areas.{other, chosen, same_area, holds}
use Rattle.network.specs.Numbers.{area_number, answer_of}

-- the numbers of an ending: 24 names the area that holds the network after the last round
abbrev pub answered_from : Area → Ending (List ℕ) → Answer
answered_from from (accepted network count) = accepts count
answered_from from (refused x) =
    answer x.number (cond (eqb x.number 24) (area_number (holds from x.count)) x.first) x.second x.third x.count

-- an acceptance carries n and names the area that the confirming round wrote
abbrev pub NamesFrom : ℕ → Area → Verdict → Type 0
NamesFrom n from (Ok outcome) = (outcome.regions ≡ n) × (outcome.area ≡ holds (other from) outcome.rounds)
NamesFrom n from (Err unrefined) = Unit

-- where the rounds are used up, the area that does not hold the last round's matrix has the one before it, or what it held if no round
-- has run
abbrev pub round_before : ℕ → ℕ → List ℕ → List ℕ → List ℕ
round_before n zero m held = held
round_before n (suc count) m held = laid (n * n) (after_rounds count n m) held

-- what either area then holds, by whether it is the one that holds the last round's matrix
abbrev pub used_up : ℕ → ℕ → List ℕ → Bool → List ℕ → List ℕ
used_up n count m holder held = cond holder (laid (n * n) (after_rounds count n m) held) (round_before n count m held)

-- what an area holds after a run from the matrix m in the area `from`: the network in front; after 23 zeros in front; after 24 as above;
-- after 1, 2 and 25 what it held
unfoldable pub left_by : ℕ → Area → List ℕ → Ending (List ℕ) → Area → List ℕ → List ℕ
left_by n from m (accepted network count) area held = laid (n * n) network held
left_by n from m (refused x) area held =
    cond (eqb x.number 23) (laid (n * n) (replicate (n * n) 0) held)
    (cond (eqb x.number 24) (used_up n x.count m (same_area area (holds from x.count)) held) held)

-- the matrix that a run starts from: the first n² bytes of the area named
abbrev pub starts_from : ℕ → Area → List ℕ → List ℕ → List ℕ
starts_from n from first second = take (n * n) (chosen from first second)

-- what it comes to
abbrev pub ran_from : ℕ → Area → ℕ → List ℕ → List ℕ → Ending (List ℕ)
ran_from n from most first second = ran n most (starts_from n from first second) (length first) (length second)

-- what `run` promises of the verdict and of both areas, before and after
pub record Ran (n : ℕ) (from : Area) (most : ℕ) (first second first' second' : List ℕ) (verdict : Verdict) : Type 0 where
  pub answer : answer_of verdict ≡ answered_from from (ran_from n from most first second)
  pub names : NamesFrom n from verdict
  pub in_first : first' ≡ left_by n from (starts_from n from first second) (ran_from n from most first second) First first
  pub in_second : second' ≡ left_by n from (starts_from n from first second) (ran_from n from most first second) Second second
