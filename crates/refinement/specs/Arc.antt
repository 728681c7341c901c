-- The arc rule.
use Rattle.std.specs.Prelude.{ℕ, List}
use Rattle.relation.specs.Sets.{intersect}
use Rattle.relation.specs.Converse.{converse}
use Rattle.matrix.specs.Cells.{cell, grid}

-- each (i, j) is intersected with the converse of (j, i)
abbrev pub arc_cell : ℕ → List ℕ → ℕ → ℕ → ℕ
arc_cell n m i j = intersect (cell n m i j) (converse (cell n m j i))

unfoldable pub arc : ℕ → List ℕ → List ℕ
arc n m = grid n (arc_cell n m)
