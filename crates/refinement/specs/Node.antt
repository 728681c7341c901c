-- The node rule.
use Rattle.std.specs.Prelude.{ℕ, cond, List, eqb}
use Rattle.lists.specs.Least.{least}
use Rattle.relation.specs.Relations.{equal}
use Rattle.relation.specs.Sets.{only, intersect}
use Rattle.matrix.specs.Cells.{cell, grid}

-- each (i, i) is intersected with equal
abbrev pub node_cell : ℕ → List ℕ → ℕ → ℕ → ℕ
node_cell n m i j = cond (eqb i j) (intersect (cell n m i j) (only equal)) (cell n m i j)

unfoldable pub node : ℕ → List ℕ → List ℕ
node n m = grid n (node_cell n m)

-- the least region whose own cell is empty; n if there is none
unfoldable pub empty_region : ℕ → List ℕ → ℕ
empty_region n m = least n (λ i. eqb (cell n m i i) 0)
