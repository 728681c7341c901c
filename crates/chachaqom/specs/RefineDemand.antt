-- What demand 3 asks of `chachaqom_refine`, in the terms of its caller: the number that it returns, and both areas as it left them.
use Rattle.std.specs.Prelude.{◌≡◌, List, ℕ, ◌*◌, take}
use Rattle.refinement.specs.Network.{Largest, Exists}

pub record RefineDemand (n : ℕ) (cells first' second' : List ℕ) (number : ℕ) : Type 0 where
  -- 0 exactly when there is a network within the stated sets
  pub network_if : number ≡ 0 → Exists n cells
  pub accepted_if : Exists n cells → number ≡ 0
  -- what stands in front of both areas is one, and contains every other
  pub first-largest : number ≡ 0 → Largest n cells (take (n * n) first')
  pub second-largest : number ≡ 0 → Largest n cells (take (n * n) second')
