-- What `chachaqom_run` promises: the returned number, the 20 answer bytes and every byte of both areas.
use Rattle.std.specs.Prelude.{◌≡◌, ℕ, Bool, not, cond, ◌||◌, List, eqb}
use Rattle.answer.specs.Answer.{answer}
use Rattle.answer.specs.Ending.{Ending, refused, stop}
use Rattle.answer.specs.Bytes.{Answers, left_with}
use Rattle.network.specs.declared.Area.{Area}
use Rattle.network.specs.declared.Area.TheVariants.{First, Second}
use Rattle.network.specs.Ran.{answered_from, left_by, starts_from, ran_from}

-- 1 is the first area and 2 the second, and no other number is an area
abbrev pub is_area : ℕ → Bool
is_area number = eqb number 1 || eqb number 2

abbrev pub area_of : ℕ → Area
area_of number = cond (eqb number 2) Second First

-- what it comes to: a number that is no area is refused with 1, as an n outside 1 to 64 is
unfoldable pub run_of : ℕ → ℕ → ℕ → List ℕ → List ℕ → Ending (List ℕ)
run_of n area most first second =
    stop (not (is_area area)) (refused (answer 1 0 0 0 0)) (λ _. ran_from n (area_of area) most first second)

-- what either area holds afterwards
abbrev pub left_by_run : ℕ → ℕ → ℕ → List ℕ → List ℕ → Area → List ℕ → List ℕ
left_by_run n area most first second which held =
    left_by n (area_of area) (starts_from n (area_of area) first second) (run_of n area most first second) which held

-- the number, the answer and both areas, before and after
pub record RunExport (n area most : ℕ) (first second answer first' second' answer' : List ℕ) (number : ℕ) : Type 0 where
  pub answers : Answers (answered_from (area_of area) (run_of n area most first second)) answer answer' number
  pub in_first : first' ≡ left_with answer (left_by_run n area most first second First first) first
  pub in_second : second' ≡ left_with answer (left_by_run n area most first second Second second) second
