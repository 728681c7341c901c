-- What a verdict carries: no more rounds than the document allows, and a region, a pair in order, or three regions that differ.
use Rattle.std.specs.Prelude.{ℕ, ◌≤◌, Ok, Err}
use Rattle.refinement.specs.Refine.{most_rounds}
use Rattle.refinement.specs.Ends.{AtRegion, AtPair, AlongTriple}
use Rattle.refinement.specs.declared.Contradiction.TheVariants.{Region, Pair, Triple}
use Rattle.network.specs.declared.Unrefined.TheVariants.{Refused, Unfinished, Unprepared, OutOfRange, WrongLength}
use Rattle.network.specs.Verdict.{Verdict}
use Rattle.network.specs.Numbers.{answer_of}

-- a call within its limits never ends with the last four
abbrev pub Carries : ℕ → Verdict → Type 0
Carries n (Ok outcome) = outcome.rounds ≤ most_rounds n
Carries n (Err (Refused (Region i) rounds)) = AtRegion n (answer_of (Err (Refused (Region i) rounds)))
Carries n (Err (Refused (Pair i j) rounds)) = AtPair n (answer_of (Err (Refused (Pair i j) rounds)))
Carries n (Err (Refused (Triple i k j) rounds)) = AlongTriple n (answer_of (Err (Refused (Triple i k j) rounds)))
Carries n (Err (Unfinished rounds area)) = ⊥
Carries n (Err Unprepared) = ⊥
Carries n (Err OutOfRange) = ⊥
Carries n (Err WrongLength) = ⊥
