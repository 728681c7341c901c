-- Runs one after the other, as a host makes them that redraws in between.
use Rattle.std.specs.Prelude.{◌≡◌, List, [], ◌∷◌, ℕ, ◌+◌, Ok, Err}
use Rattle.network.specs.declared.Area.{Area}
use Rattle.network.specs.declared.Unrefined.TheVariants.{Refused, Unfinished, Unprepared, OutOfRange, WrongLength}
use Rattle.network.specs.Verdict.{Verdict, acceptance}
use Rattle.network.specs.Numbers.{answer_of}
use Rattle.network.specs.Ran.{Ran}

-- the runs from an area on, by the rounds that each may make: each but the last is used up, and the next one starts from the area that it
-- named, with both areas as it left them; with the counts of all of them added up, and what the last one answers and leaves
pub data Chain (n : ℕ) : Area → List ℕ → List ℕ → List ℕ → ℕ → Verdict → List ℕ → List ℕ → Type 0 where
  last : {from : Area} {most : ℕ} {first second first' second' : List ℕ} {counted : ℕ} {verdict : Verdict}
      → Ran n from most first second first' second' verdict → counted ≡ (answer_of verdict).count
      → Chain n from first second (most ∷ []) counted verdict first' second'
  next : {from area : Area} {most rounds : ℕ} {first second first₁ second₁ first' second' shares : List ℕ} {others counted : ℕ} {verdict : Verdict}
      → Ran n from most first second first₁ second₁ (Err (Unfinished rounds area)) → Chain n area first₁ second₁ shares others verdict first' second'
      → counted ≡ rounds + others → Chain n from first second (most ∷ shares) counted verdict first' second'

-- a verdict with another count
abbrev pub counting : ℕ → Verdict → Verdict
counting count (Ok outcome) = acceptance outcome.regions count outcome.area
counting count (Err (Refused contradiction rounds)) = Err (Refused contradiction count)
counting count (Err (Unfinished rounds area)) = Err (Unfinished count area)
counting count (Err Unprepared) = Err Unprepared
counting count (Err OutOfRange) = Err OutOfRange
counting count (Err WrongLength) = Err WrongLength
