-- What `chachaqom_prepare` promises: the returned number, the 20 answer bytes and every byte of both areas.
use Rattle.std.specs.Prelude.{◌≡◌, ℕ, List, length}
use Rattle.answer.specs.Ending.{answered}
use Rattle.answer.specs.Bytes.{Answers, left_with}
use Rattle.refinement.specs.Run.{readied}
use Rattle.network.specs.Refined.{leaves}
use Rattle.network.specs.Prepared.{leaves_second}

-- the number, the answer and both areas, before and after: the first holds in front what the rounds start from
pub record PrepareExport (n : ℕ) (cells first second answer first' second' answer' : List ℕ) (number : ℕ) : Type 0 where
  pub answers : Answers (answered (readied n cells (length first) (length second))) answer answer' number
  pub in_first : first' ≡ left_with answer (leaves n (readied n cells (length first) (length second)) first) first
  pub in_second : second' ≡ left_with answer (leaves_second n (readied n cells (length first) (length second)) second) second
