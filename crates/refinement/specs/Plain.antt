-- What every round starts from.
use Rattle.std.specs.Prelude.{◌≡◌, List, ℕ, ◌<◌}
use Rattle.relation.specs.Relations.{equal}
use Rattle.relation.specs.Sets.{only, empty}
use Rattle.relation.specs.Converse.{converse}
use Rattle.matrix.specs.Cells.{cell}

-- each cell is a byte
pub record Bytes (n : ℕ) (m : List ℕ) : Type 0 where
  pub byte : (i j : ℕ) → i < n → j < n → cell n m i j < 256

-- no cell is empty
pub record Filled (n : ℕ) (m : List ℕ) : Type 0 where
  pub filled : (i j : ℕ) → i < n → j < n → cell n m i j ≡ empty → ⊥

-- bytes, none empty, only "equal" on the diagonal, opposite cells converse
pub record Plain (n : ℕ) (m : List ℕ) : Type 0 where
  pub bytes : Bytes n m
  pub full : Filled n m
  pub diagonal : (i : ℕ) → i < n → cell n m i i ≡ only equal
  pub opposite : (i j : ℕ) → i < n → j < n → cell n m i j ≡ converse (cell n m j i)
