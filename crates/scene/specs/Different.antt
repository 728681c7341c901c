-- Identifiers by place that no two regions share.
use Rattle.std.specs.Prelude.{◌≡◌, List, ℕ, ◌≤◌, ◌<◌, length, get_or}
use Rattle.matrix.specs.Square.{most_regions}

pub record Different (identifiers : List ℕ) : Type 0 where
  pub apart : (i j : ℕ) → i < j → j < length identifiers → get_or identifiers i 0 ≡ get_or identifiers j 0 → ⊥
  pub none_zero : (i : ℕ) → i < length identifiers → get_or identifiers i 0 ≡ 0 → ⊥
  pub few : length identifiers ≤ most_regions
