-- How many regions a matrix may have, and how many cells go with them.
use Rattle.std.specs.Prelude.{◌≡◌, Bool, ◌&&◌, List, ℕ, ◌*◌, ◌≤◌, leb, eqb, length}

-- the most regions
abbrev pub most_regions : ℕ
most_regions = 64

-- n is from 1 to 64
unfoldable pub in_range : ℕ → Bool
in_range n = leb 1 n && leb n most_regions

-- there are just n² cells
unfoldable pub has_square : ℕ → List ℕ → Bool
has_square n m = eqb (length m) (n * n)

-- n is from 1 to 64, and there are just n² cells
pub record Square (n : ℕ) (m : List ℕ) : Type 0 where
  pub some : 1 ≤ n
  pub few : n ≤ most_regions
  pub size : length m ≡ n * n
