-- The lent areas that what was said is laid into, and what a call leaves in them.
use Rattle.std.specs.Prelude.{◌≡◌, Bool, not, cond, ◌&&◌, List, ◌++◌, ℕ, ◌+◌, ◌-◌, ◌*◌, eqb, leb, length, get_or, map, replicate, set}
use Rattle.std.specs.List.{range_with_len}
use Rattle.relation.specs.Sets.{intersect}
use Rattle.matrix.specs.Square.{most_regions}
use Rattle.matrix.specs.Cells.{row, column, cell_or_empty, narrowed_cells}
use Rattle.filing.specs.Said.{Statement, Said}
use Rattle.filing.specs.Stated.{cells_of}
use Rattle.filing.specs.Marks.{marks_of}

-- every area that is lent
pub record Areas : Type 0 where
  pub identifiers : List ℕ
  pub cells : List ℕ
  pub marks : List ℕ

abbrev pub holding : List ℕ → List ℕ → List ℕ → Areas
holding identifiers cells marks = record { identifiers = identifiers; cells = cells; marks = marks }

-- how many identifiers are lent, and how many cells, with a mark for each
abbrev pub lent_identifiers : ℕ
lent_identifiers = 64

abbrev pub lent_cells : ℕ
lent_cells = 4096

-- areas of these lengths
pub record Lent (areas : Areas) : Type 0 where
  pub identifiers-long : length areas.identifiers ≡ lent_identifiers
  pub cells-long : length areas.cells ≡ lent_cells
  pub marks-long : length areas.marks ≡ lent_cells

-- the same as a test
unfoldable pub are_lent : Areas → Bool
are_lent areas =
    eqb (length areas.identifiers) lent_identifiers && (eqb (length areas.cells) lent_cells && eqb (length areas.marks) lent_cells)

-- an area of one and the same entry throughout
abbrev pub all_of : ℕ → List ℕ → List ℕ
all_of entry area = replicate (length area) entry

-- before anything is said: no identifier, every cell the same, and no mark
abbrev pub started : ℕ → Areas → Areas
started start areas = holding (all_of 0 areas.identifiers) (all_of start areas.cells) (all_of 0 areas.marks)

-- all 0
abbrev pub emptied : Areas → Areas
emptied = started 0

-- after a refusal: as they were after 2, and else all 0
abbrev pub cleared : ℕ → Areas → Areas
cleared number areas = cond (eqb number 2) areas (emptied areas)

-- a list and one and the same entry after it, up to a length
abbrev pub padded_with : {A : Type 0} → A → ℕ → List A → List A
padded_with entry size l = l ++ replicate (size - length l) entry

-- a list and zeros after it, up to a length
abbrev pub padded : ℕ → List ℕ → List ℕ
padded size l = padded_with 0 size l

-- after an acceptance: the identifiers by place, the cells and their marks in rows of n, and 0 past the last of each
abbrev pub filled : (ℕ → ℕ → ℕ) → Said → Areas → Areas
filled start said areas =
    holding (padded (length areas.identifiers) said.identifiers) (padded (length areas.cells) (cells_of start said))
    (padded (length areas.marks) (marks_of start said))

-- cells in rows of 64 after one more statement
abbrev pub filed_in : List ℕ → Statement → List ℕ
filed_in cells s = narrowed_cells most_regions cells s.from s.to s.set

-- a statement removes a relation from the set
abbrev pub removes_from : Statement → ℕ → Bool
removes_from s set = not (eqb (intersect set s.set) set)

-- marks in rows of 64 after one more statement, by the cells before it and by its number
abbrev pub marked_in : List ℕ → List ℕ → Statement → ℕ → List ℕ
marked_in cells marks s number =
    cond (removes_from s (cell_or_empty most_regions cells s.from s.to)) (set marks (s.from * most_regions + s.to) number) marks

-- 4,096 entries can be taken as rows of 64, for at most 64 regions
abbrev pub has_rows : {A : Type 0} → ℕ → List A → Bool
has_rows n entries = eqb (length entries) lent_cells && leb n most_regions

-- the entries of n regions, in rows of n, out of rows of 64
abbrev pub in_rows : {A : Type 0} → A → ℕ → List A → List A
in_rows padding n entries = map (λ p. get_or entries (row n p * most_regions + column n p) padding) (range_with_len 0 (n * n))

-- rows of 64 entries as rows of n, and padding behind them; other entries as they were
unfoldable pub packed : {A : Type 0} → A → ℕ → List A → List A
packed padding n entries = cond (has_rows n entries) (padded_with padding (length entries) (in_rows padding n entries)) entries
