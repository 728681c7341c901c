-- What a host that writes a scene and reads it back must get.
use Rattle.std.specs.Prelude.{◌≡◌, List, ℕ, ◌*◌, take}
use Rattle.lists.specs.BigEndian.{number_at, two_bytes_each}
use Rattle.filing.specs.Areas.{lent_cells, padded}
use Rattle.writer.specs.RoundTrip.{written_marks}

-- the reading is accepted with n regions, and its areas hold the identifiers' bytes, the cells, and the marks of the written scene, two
-- bytes each, with zeros behind cells and marks
pub record RestoredBytes (n : ℕ) (identifiers cells identifiers' cells' marks' answer' : List ℕ) (number : ℕ) : Type 0 where
  pub accepted : number ≡ 0
  pub regions : number_at answer' 16 ≡ n
  pub same-identifiers : take (4 * n) identifiers' ≡ identifiers
  pub same-cells : cells' ≡ padded lent_cells cells
  pub written-marks : marks' ≡ two_bytes_each (padded lent_cells (written_marks n cells))
