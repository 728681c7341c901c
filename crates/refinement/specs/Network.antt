-- What demand 3 asks of a network.
use Rattle.std.specs.Prelude.{◌≡◌, List, ℕ, ◌*◌, ◌<◌, length}
use Rattle.relation.specs.Relations.{equal}
use Rattle.relation.specs.Sets.{Within, only, empty}
use Rattle.relation.specs.Converse.{converse}
use Rattle.relation.specs.Composition.{compose}
use Rattle.matrix.specs.Cells.{cell}

-- each cell of a within the same cell of b
pub record Below (n : ℕ) (a b : List ℕ) : Type 0 where
  pub cells : (i j : ℕ) → i < n → j < n → Within (cell n a i j) (cell n b i j)

-- w is a network of n regions within the stated sets m
pub record Network (n : ℕ) (m w : List ℕ) : Type 0 where
  pub size : length w ≡ n * n
  pub within : Below n w m
  -- no empty set
  pub filled : (i j : ℕ) → i < n → j < n → cell n w i j ≡ empty → ⊥
  -- only "equal" on the diagonal
  pub diagonal : (i : ℕ) → i < n → cell n w i i ≡ only equal
  -- opposite cells converse
  pub opposite : (i j : ℕ) → i < n → j < n → cell n w i j ≡ converse (cell n w j i)
  -- each set within the composition through every third region
  pub third : (i j k : ℕ) → i < n → j < n → k < n → (i ≡ j → ⊥) → (k ≡ i → ⊥) → (k ≡ j → ⊥)
      → Within (cell n w i j) (compose (cell n w i k) (cell n w k j))

-- w is a network within m, and every other one is within w
pub record Largest (n : ℕ) (m w : List ℕ) : Type 0 where
  pub network : Network n m w
  pub contains : (v : List ℕ) → Network n m v → Below n v w

-- there is a network within the stated sets
pub record Exists (n : ℕ) (m : List ℕ) : Type 0 where
  pub network : List ℕ
  pub is : Network n m network
