-- What reading back what was written must give, and what writing what was read must.
use Rattle.std.specs.Prelude.{◌≡◌, List, cond, ℕ, suc, ◌+◌, ◌*◌, ◌≤◌, ◌<◌, eqb, length, get_or, take, Result, Ok}
use Rattle.relation.specs.Sets.{universal}
use Rattle.matrix.specs.Cells.{cell, grid}
use Rattle.filing.specs.Areas.{Areas, holding, Lent, lent_identifiers, lent_cells, padded}
use Rattle.scene.specs.Reads.{Reads}
use Rattle.scene.specs.declared.Unread.{Unread}
use Rattle.writer.specs.Scene.{stated_count}
use Rattle.writer.specs.declared.Unwritten.{Unwritten}

-- every identifier has 32 bits
pub record Words (identifiers : List ℕ) : Type 0 where
  pub small : (p : ℕ) → get_or identifiers p 0 < 4294967296

-- the marks that the written scene gives: a cell that is not 255 has the number of its own statement, in row order
abbrev pub written_marks : ℕ → List ℕ → List ℕ
written_marks n cells = grid n (λ i j. cond (eqb (cell n cells i j) universal) 0 (stated_count (suc (i * n + j)) cells))

-- reading back answers n, and leaves the identifiers and the cells, the written scene's marks, and zeros behind them
pub record Restored (n : ℕ) (identifiers cells : List ℕ) (reading : Result ℕ Unread) (after : Areas) : Type 0 where
  pub regions : reading ≡ Ok n
  pub areas : after ≡ holding (padded lent_identifiers identifiers) (padded lent_cells cells) (padded lent_cells (written_marks n cells))

-- what was read is written in no more bytes, and reading these again answers the same and leaves the same identifiers and cells, with
-- the written scene's marks
pub record Rewritten (scene : List ℕ) (read : Areas) (buffer : List ℕ) (n : ℕ) (writing : Result ℕ Unwritten) : Type 0 where
  pub bytes : ℕ
  pub written : writing ≡ Ok bytes
  pub shorter : bytes ≤ length scene
  pub again : (before after : Areas) (reading : Result ℕ Unread) → Lent before → Reads (take bytes buffer) before after reading
      → (reading ≡ Ok n)
      × (after ≡ holding read.identifiers read.cells (padded lent_cells (written_marks n (take (n * n) read.cells))))
