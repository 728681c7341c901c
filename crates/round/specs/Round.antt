-- A round through some of the regions, for any matrix and any regions: from the old cell, through those regions that are live.
use Rattle.std.specs.Prelude.{ℕ, zero, suc, ◌+◌, ◌*◌, ◌/◌, Bool, cond, not, ◌&&◌, List, eqb, length}
use Rattle.relation.specs.Sets.{has, universal, intersect}
use Rattle.relation.specs.Composition.{compose}
use Rattle.matrix.specs.Cells.{cell, row, column, first_empty}
use Rattle.lanes.specs.Lists.{mask_of, some}
use Rattle.planes.specs.Planes.{sets_of, planes_of, stride_of, blocks_of}

-- old (i, j) intersected with the compositions through those of the places below the last argument that are live
unfoldable pub through_live : ℕ → List ℕ → (ℕ → Bool) → ℕ → ℕ → ℕ → ℕ
through_live n m live i j zero = cell n m i j
through_live n m live i j (suc k) =
    let t : ℕ = through_live n m live i j k in
    cond (live k) (intersect t (compose (cell n m i k) (cell n m k j))) t

-- of a block of rows, some row other than k knows something of region k: its set there is not the universal one
unfoldable pub known : ℕ → List ℕ → ℕ → ℕ → Bool
known stride m block k =
    some (64 / stride)
    (λ g. let i : ℕ = block * (64 / stride) + g in not (eqb i k) && not (eqb (cell stride m i k) universal))

-- the new set of lane p: through the live regions below n of which its block knows something
unfoldable pub new_set : ℕ → ℕ → ℕ → List ℕ → ℕ → ℕ
new_set stride n live m p =
    through_live stride m (λ k. has live k && known stride m (p / 64) k) (row stride p) (column stride p) n

-- the first lane in row order whose set is empty; how many lanes there are if none is
abbrev pub empty_lane : List ℕ → ℕ
empty_lane sets = first_empty (length sets) sets

-- the planes that a round through the live regions makes
abbrev pub round_planes : ℕ → ℕ → List ℕ → List ℕ
round_planes n live old = planes_of (blocks_of n) (new_set (stride_of n) n live (sets_of old))

-- the columns in which two matrices of lanes differ: bit k is set where some row has another set at k
unfoldable pub changed_columns : ℕ → List ℕ → List ℕ → ℕ
changed_columns stride new old =
    mask_of stride (λ k. some (length old / stride) (λ i. not (eqb (cell stride new i k) (cell stride old i k))))
