-- What functions inside the crate promise; no public contract cites it.
use Rattle.std.specs.Prelude.{ℕ, ◌+◌, ◌*◌, cond, Option, Some, None}
use Rattle.matrix.specs.Cells.{is_cell}

-- the place of cell (i, j) in rows of a length, if there is such a cell
abbrev pub cell_place : ℕ → ℕ → ℕ → Option ℕ
cell_place width i j = cond (is_cell width i j) (Some (i * width + j)) None
