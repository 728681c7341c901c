-- A matrix that states nothing, and what is then known.
use Rattle.std.specs.Prelude.{cond, List, ℕ, ◌*◌, eqb, replicate}
use Rattle.relation.specs.Relations.{equal}
use Rattle.relation.specs.Sets.{only, universal}
use Rattle.matrix.specs.Cells.{grid}

-- every cell universal
abbrev pub nothing_stated : ℕ → List ℕ
nothing_stated n = replicate (n * n) universal

-- "equal" on the diagonal and the universal set elsewhere
abbrev pub unknown_cell : ℕ → ℕ → ℕ
unknown_cell i j = cond (eqb i j) (only equal) universal

unfoldable pub unknown : ℕ → List ℕ
unknown n = grid n unknown_cell
