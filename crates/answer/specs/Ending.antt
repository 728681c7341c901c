-- How a call ends, whatever it is about: accepted, with what it gives and a count; or refused, with its numbers.
use Rattle.std.specs.Prelude.{◌≡◌, ℕ, Bool, true, false}
use Rattle.answer.specs.Answer.{Answer, accepts}

pub data Ending (X : Type 0) : Type 0 where
  accepted : X → ℕ → Ending X
  refused : Answer → Ending X

-- the five numbers of an ending
abbrev pub answered : {X : Type 0} → Ending X → Answer
answered (accepted given count) = accepts count
answered (refused numbers) = numbers

-- this ending if the test passes, and else what follows
abbrev pub stop : {X : Type 0} → Bool → Ending X → (Unit {0} → Ending X) → Ending X
stop true ending follows = ending
stop false ending follows = follows tt

-- the ending is an acceptance
pub record Accepted {X : Type 0} (ending : Ending X) : Type 0 where
  pub given : X
  pub count : ℕ
  pub is : ending ≡ accepted given count
