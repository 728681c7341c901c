-- What a preparation promises: what it came to and every byte of both areas.
use Rattle.std.specs.Prelude.{◌≡◌, List, ℕ, length}
use Rattle.answer.specs.Ending.{Ending, accepted, refused, answered}
use Rattle.refinement.specs.Run.{readied}
use Rattle.network.specs.Verdict.{Start}
use Rattle.network.specs.Numbers.{answer_of_start}
use Rattle.network.specs.Refined.{leaves}

-- what the second area holds afterwards: after 21 and 22 zeros in front, and else what it held
unfoldable pub leaves_second : ℕ → Ending (List ℕ) → List ℕ → List ℕ
leaves_second n (accepted matrix count) area = area
leaves_second n (refused numbers) area = leaves n (refused numbers) area

-- what `prepare` promises of its answer and of both areas, before and after: the first holds in front what the rounds start from
pub record Prepared (n : ℕ) (cells first second first' second' : List ℕ) (start : Start) : Type 0 where
  pub answer : answer_of_start start ≡ answered (readied n cells (length first) (length second))
  pub in_first : first' ≡ leaves n (readied n cells (length first) (length second)) first
  pub in_second : second' ≡ leaves_second n (readied n cells (length first) (length second)) second
