-- What every call answers in document 01's numbers.
use Rattle.std.specs.Prelude.{ℕ}

-- the refusal number or 0, three places (unused ones 0), and a count
pub record Answer : Type 0 where
  pub number : ℕ
  pub first : ℕ
  pub second : ℕ
  pub third : ℕ
  pub count : ℕ

abbrev pub answer : ℕ → ℕ → ℕ → ℕ → ℕ → Answer
answer number first second third count =
    record { number = number; first = first; second = second; third = third; count = count }

-- an acceptance: number and places 0
abbrev pub accepts : ℕ → Answer
accepts count = answer 0 0 0 0 count

-- a refusal that names one place, with count 0
abbrev pub refuses : ℕ → ℕ → Answer
refuses number place = answer number place 0 0 0
