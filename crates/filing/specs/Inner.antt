-- What functions inside the crate ask; no public contract cites it.
use Rattle.std.specs.Prelude.{◌≡◌, List, ℕ, ◌≤◌, length}
use Rattle.matrix.specs.Square.{most_regions}
use Rattle.filing.specs.Areas.{lent_cells}

-- entries in rows of 64, for at most 64 regions
pub record Rows {A : Type 0} (entries : List A) (regions : ℕ) : Type 0 where
  pub long : length entries ≡ lent_cells
  pub few : regions ≤ most_regions
