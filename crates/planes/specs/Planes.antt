-- A matrix as planes: blocks of eight words, one word a relation, with 64 lanes in a block. The cells of a matrix lie in the lanes row by
-- row, `stride` lanes to a row: cell (i, j) is lane i * stride + j.
use Rattle.std.specs.Prelude.{ℕ, ◌+◌, ◌*◌, ◌/◌, ◌%◌, cond, ◌&&◌, List, ltb, length, get_or}
use Rattle.relation.specs.Sets.{has, universal}
use Rattle.matrix.specs.Cells.{cell, row, column, grid}
use Rattle.lanes.specs.Lists.{list_of, mask_of}

-- the set of lane p: relation r is a member exactly if bit p % 64 of word 8 * (p / 64) + r is set
unfoldable pub lane : List ℕ → ℕ → ℕ
lane planes p = mask_of 8 (λ r. has (get_or planes (8 * (p / 64) + r) 0) (p % 64))

-- the sets of all lanes: a matrix whose rows have `stride` cells
unfoldable pub sets_of : List ℕ → List ℕ
sets_of planes = list_of (8 * length planes) (λ p. lane planes p)

-- the planes of so many blocks whose lane p has the set f p
unfoldable pub planes_of : ℕ → (ℕ → ℕ) → List ℕ
planes_of blocks f = list_of (8 * blocks) (λ w. mask_of 64 (λ x. has (f (64 * (w / 8) + x)) (w % 8)))

-- block b of the planes
unfoldable pub block_of : List ℕ → ℕ → List ℕ
block_of planes b = list_of 8 (λ r. get_or planes (8 * b + r) 0)

-- how many lanes a row of n regions has
abbrev pub stride_of : ℕ → ℕ
stride_of n = 64

-- how many blocks n rows take
abbrev pub blocks_of : ℕ → ℕ
blocks_of n = n

-- what lane p has of a matrix of n regions: its cell; a lane that is no cell has the universal set
unfoldable pub lane_cell : ℕ → ℕ → List ℕ → ℕ → ℕ
lane_cell stride n m p =
    cond (ltb (row stride p) n && ltb (column stride p) n) (cell n m (row stride p) (column stride p)) universal

-- the planes of a matrix of n regions
abbrev pub matrix_planes : ℕ → List ℕ → List ℕ
matrix_planes n m = planes_of (blocks_of n) (lane_cell (stride_of n) n m)

-- the matrix of n regions that planes hold
abbrev pub planes_matrix : ℕ → List ℕ → List ℕ
planes_matrix n planes = grid n (λ i j. lane planes (i * stride_of n + j))
