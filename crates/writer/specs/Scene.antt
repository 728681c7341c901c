-- The scene that identifiers and cells make.
use Rattle.std.specs.Prelude.{ℕ, zero, suc, ◌+◌, ◌*◌, cond, List, [], ◌∷◌, ◌++◌, eqb, get_or}
use Rattle.region.specs.Lookup.{place}
use Rattle.region.specs.Named.{identifier_at}
use Rattle.relation.specs.Sets.{universal}
use Rattle.matrix.specs.Cells.{row, column}
use Rattle.scene.specs.Format.{end_kind, region_record, statement_record}

-- the regions in place order
unfoldable pub region_records : List ℕ → List ℕ
region_records [] = []
region_records (identifier ∷ rest) = region_record identifier ++ region_records rest

-- the statement of the cell at a place of the list of cells, between the identifiers of its row and of its column
abbrev pub cell_record : ℕ → List ℕ → List ℕ → ℕ → List ℕ
cell_record n identifiers cells p =
    statement_record (identifier_at identifiers (place (row n p))) (identifier_at identifiers (place (column n p))) (get_or cells p 0)

-- a statement for each of the first `count` cells in row order, diagonal included, that is not 255
unfoldable pub statement_records : ℕ → ℕ → List ℕ → List ℕ → List ℕ
statement_records zero n identifiers cells = []
statement_records (suc p) n identifiers cells =
    statement_records p n identifiers cells ++ cond (eqb (get_or cells p 0) universal) [] (cell_record n identifiers cells p)

-- regions in place order, then the statements, then End
unfoldable pub scene_of : ℕ → List ℕ → List ℕ → List ℕ
scene_of n identifiers cells =
    region_records identifiers ++ (statement_records (n * n) n identifiers cells ++ (end_kind ∷ []))

-- how many of the first `count` cells are not 255
unfoldable pub stated_count : ℕ → List ℕ → ℕ
stated_count zero cells = 0
stated_count (suc p) cells = stated_count p cells + cond (eqb (get_or cells p 0) universal) 0 1
