-- A round, and the path by which a cell runs empty.
use Rattle.std.specs.Prelude.{ℕ, zero, suc, List, eqb}
use Rattle.lists.specs.Least.{least}
use Rattle.relation.specs.Sets.{universal, intersect}
use Rattle.relation.specs.Composition.{compose}
use Rattle.matrix.specs.Cells.{cell, grid}

-- the intersection of (i, k) composed with (k, j), over the places k below the last argument
unfoldable pub through : ℕ → List ℕ → ℕ → ℕ → ℕ → ℕ
through n m i j zero = universal
through n m i j (suc k) = intersect (through n m i j k) (compose (cell n m i k) (cell n m k j))

-- a round: every new cell is the intersection over all k of old (i, k) composed with old (k, j)
unfoldable pub round : ℕ → List ℕ → List ℕ
round n old = grid n (λ i j. through n old i j n)

-- the least k at which old (i, j), intersected with the compositions through 0..k, has run empty; n if there is none
unfoldable pub ran_out : ℕ → List ℕ → ℕ → ℕ → ℕ
ran_out n old i j = least n (λ k. eqb (intersect (cell n old i j) (through n old i j (suc k))) 0)
