-- What may be written.
use Rattle.std.specs.Prelude.{◌≡◌, List, ℕ, ◌*◌, ◌≤◌, length}
use Rattle.matrix.specs.Square.{Square}
use Rattle.matrix.specs.Cells.{first_empty}
use Rattle.scene.specs.Format.{most_bytes}
use Rattle.writer.specs.Scene.{scene_of}
use Rattle.writer.specs.Writing.{first_bad}

-- n from 1 to 64, n² cells and n identifiers
pub record Sized (n : ℕ) (identifiers cells : List ℕ) : Type 0 where
  pub square : Square n cells
  pub regions : length identifiers ≡ n

-- no place is bad, no cell is empty, and the scene is not too long
pub record Writable (n : ℕ) (identifiers cells : List ℕ) : Type 0 where
  pub sized : Sized n identifiers cells
  pub good : n ≤ first_bad n identifiers
  pub full : n * n ≤ first_empty (n * n) cells
  pub short : length (scene_of n identifiers cells) ≤ most_bytes
