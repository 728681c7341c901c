-- What a list of statements makes of a cell, whatever the cell is before any of them.
use Rattle.std.specs.Prelude.{ℕ, cond, ◌&&◌, List, [], ◌∷◌, eqb}
use Rattle.relation.specs.Sets.{intersect}
use Rattle.matrix.specs.Cells.{grid}
use Rattle.filing.specs.Said.{Statement, Said, regions}

-- a statement is intersected into its own cell only, in the direction it was made
abbrev pub narrowed : Statement → ℕ → ℕ → ℕ → ℕ
narrowed s i j set = cond (eqb s.from i && eqb s.to j) (intersect set s.set) set

-- cell (i, j) after the statements, from the cell that it starts at
unfoldable pub stated_cell : (ℕ → ℕ → ℕ) → List Statement → ℕ → ℕ → ℕ
stated_cell start [] i j = start i j
stated_cell start (latest ∷ earlier) i j = narrowed latest i j (stated_cell start earlier i j)

-- all cells of the regions, in rows of n
abbrev pub cells_of : (ℕ → ℕ → ℕ) → Said → List ℕ
cells_of start said = grid (regions said) (stated_cell start said.statements)
