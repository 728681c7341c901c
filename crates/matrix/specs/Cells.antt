-- A matrix of n regions is the list of its cells, row by row: cell (i, j) speaks of region i towards region j.
use Rattle.std.specs.Prelude.{ℕ, ◌+◌, ◌*◌, ◌/◌, ◌%◌, Bool, not, cond, ◌&&◌, List, eqb, ltb, leb, get_or, set}
use Rattle.lists.specs.Least.{least}
use Rattle.lists.specs.Tabled.{tabled}
use Rattle.relation.specs.Sets.{empty, intersect}
use Rattle.matrix.specs.Square.{most_regions}

-- cell (i, j) of the matrix m
abbrev pub cell : ℕ → List ℕ → ℕ → ℕ → ℕ
cell n m i j = get_or m (i * n + j) 0

-- the row and the column of the cell at a place of the list
abbrev pub row : ℕ → ℕ → ℕ
row n p = p / n

abbrev pub column : ℕ → ℕ → ℕ
column n p = p % n

-- the matrix whose cell (i, j) is f i j
unfoldable pub grid : ℕ → (ℕ → ℕ → ℕ) → List ℕ
grid n f = tabled (n * n) 0 (λ p. f (row n p) (column n p))

-- the first empty cell in row order among the first `count` cells, as its place in the list; `count` if there is none
unfoldable pub first_empty : ℕ → List ℕ → ℕ
first_empty count m = least count (λ p. eqb (get_or m p 0) empty)

-- the first place among the first `count` cells where two matrices differ; `count` if there is none
unfoldable pub first_change : ℕ → List ℕ → List ℕ → ℕ
first_change count new old = least count (λ p. not (eqb (get_or new p 0) (get_or old p 0)))

-- there is a cell (i, j) in rows of a length, which is at most 64
abbrev pub is_cell : ℕ → ℕ → ℕ → Bool
is_cell width i j = leb width most_regions && (ltb i width && ltb j width)

-- cell (i, j), and the empty set where there is no such cell
unfoldable pub cell_or_empty : ℕ → List ℕ → ℕ → ℕ → ℕ
cell_or_empty width m i j = cond (is_cell width i j) (cell width m i j) empty

-- the cells after a set is intersected into cell (i, j), if there is such a cell
unfoldable pub narrowed_cells : ℕ → List ℕ → ℕ → ℕ → ℕ → List ℕ
narrowed_cells width m i j added =
    cond (is_cell width i j) (set m (i * width + j) (intersect (cell width m i j) added)) m
