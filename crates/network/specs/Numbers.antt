-- The documents' number, places and count of each verdict, and of what a preparation comes to.
use Rattle.std.specs.Prelude.{ℕ, cond, eqb, Result, Ok, Err}
use Rattle.answer.specs.Answer.{Answer, answer, accepts}
use Rattle.network.specs.declared.Area.{Area}
use Rattle.network.specs.declared.Area.TheVariants.{First, Second}
use Rattle.refinement.specs.declared.Contradiction.TheVariants.{Region, Pair, Triple}
use Rattle.network.specs.declared.Unrefined.{Unrefined}
use Rattle.network.specs.declared.Unrefined.TheVariants.{Refused, Unfinished, Unprepared, OutOfRange, WrongLength}
use Rattle.network.specs.Verdict.{Verdict, Start}

abbrev pub area_number : Area → ℕ
area_number First = 1
area_number Second = 2

-- the area with a number; another number is out of range
abbrev pub area_numbered : ℕ → Result Area Unrefined
area_numbered number = cond (eqb number 1) (Ok First) (cond (eqb number 2) (Ok Second) (Err OutOfRange))

-- 24 names the area that holds the network
abbrev pub answer_of : Verdict → Answer
answer_of (Ok outcome) = accepts outcome.rounds
answer_of (Err (Refused (Region i) rounds)) = answer 21 i.0 0 0 rounds
answer_of (Err (Refused (Pair i j) rounds)) = answer 22 i.0 j.0 0 rounds
answer_of (Err (Refused (Triple i k j) rounds)) = answer 23 i.0 k.0 j.0 rounds
answer_of (Err (Unfinished rounds area)) = answer 24 (area_number area) 0 0 rounds
answer_of (Err Unprepared) = answer 25 0 0 0 0
answer_of (Err OutOfRange) = answer 1 0 0 0 0
answer_of (Err WrongLength) = answer 2 0 0 0 0

abbrev pub answer_of_start : Start → Answer
answer_of_start (Ok ready) = accepts 0
answer_of_start (Err unrefined) = answer_of (Err unrefined)
