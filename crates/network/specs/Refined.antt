-- What a refinement promises: its verdict and every byte of both areas.
use Rattle.std.specs.Prelude.{◌≡◌, cond, List, ℕ, ◌*◌, ◌%◌, eqb, ltb, length, replicate, Ok, Err}
use Rattle.lists.specs.Laid.{laid}
use Rattle.answer.specs.Ending.{Ending, accepted, refused, answered}
use Rattle.refinement.specs.Refine.{refined}
use Rattle.network.specs.declared.Area.{Area}
use Rattle.network.specs.declared.Area.TheVariants.{First, Second}
use Rattle.network.specs.Verdict.{Verdict}
use Rattle.network.specs.Numbers.{answer_of}

-- the area that the round after `count` rounds writes: the second after an even count
abbrev pub written : ℕ → Area
written count = cond (eqb (count % 2) 0) Second First

-- an acceptance carries n and names the area that the confirming round wrote
abbrev pub NamesArea : ℕ → Verdict → Type 0
NamesArea n (Ok outcome) = (outcome.regions ≡ n) × (outcome.area ≡ written outcome.rounds)
NamesArea n (Err unrefined) = Unit

-- what an area holds afterwards: the network in front; after 1 and 2 what it held; after 21 to 23 zeros in front
unfoldable pub leaves : ℕ → Ending (List ℕ) → List ℕ → List ℕ
leaves n (accepted network count) area = laid (n * n) network area
leaves n (refused numbers) area = cond (ltb numbers.number 21) area (laid (n * n) (replicate (n * n) 0) area)

-- what `refine` promises of the verdict and of both areas, before and after
pub record Refined (n : ℕ) (cells first second first' second' : List ℕ) (verdict : Verdict) : Type 0 where
  pub answer : answer_of verdict ≡ answered (refined n cells (length first) (length second))
  pub names : NamesArea n verdict
  pub in_first : first' ≡ leaves n (refined n cells (length first) (length second)) first
  pub in_second : second' ≡ leaves n (refined n cells (length first) (length second)) second
