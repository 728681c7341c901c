-- What `chachaqom_refine` promises: the returned number, the 20 answer bytes and every byte of both areas.
use Rattle.std.specs.Prelude.{◌≡◌, ℕ, List, length}
use Rattle.answer.specs.Ending.{answered}
use Rattle.answer.specs.Bytes.{Answers, left_with}
use Rattle.refinement.specs.Refine.{refined}
use Rattle.network.specs.Refined.{leaves}

-- the number, the answer and both areas, before and after
pub record RefineExport (n : ℕ) (cells first second answer first' second' answer' : List ℕ) (number : ℕ) : Type 0 where
  pub answers : Answers (answered (refined n cells (length first) (length second))) answer answer' number
  pub in_first : first' ≡ left_with answer (leaves n (refined n cells (length first) (length second)) first) first
  pub in_second : second' ≡ left_with answer (leaves n (refined n cells (length first) (length second)) second) second
