-- What a call within its limits has: neither 1 nor 2 refuses it.
use Rattle.std.specs.Prelude.{List, ℕ, ◌*◌, ◌≤◌}
use Rattle.matrix.specs.Square.{Square}

-- n from 1 to 64 with exactly n² cells, and at least n² bytes in each area
pub record InRange (n : ℕ) (m : List ℕ) (first second : ℕ) : Type 0 where
  pub square : Square n m
  pub first-long : n * n ≤ first
  pub second-long : n * n ≤ second
