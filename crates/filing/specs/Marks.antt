-- Which statement narrowed a cell last.
use Rattle.std.specs.Prelude.{◌≡◌, ℕ, suc, cond, List, [], ◌∷◌, ◌++◌, eqb, length}
use Rattle.matrix.specs.Cells.{grid}
use Rattle.filing.specs.Said.{Statement, Said, regions}
use Rattle.filing.specs.Stated.{stated_cell}

-- the mark of cell (i, j): the number, from 1, of the last statement that removed a relation from it; 0 if none did
unfoldable pub mark_of : (ℕ → ℕ → ℕ) → List Statement → ℕ → ℕ → ℕ
mark_of start [] i j = 0
mark_of start (latest ∷ earlier) i j =
    cond (eqb (stated_cell start (latest ∷ earlier) i j) (stated_cell start earlier i j)) (mark_of start earlier i j) (suc (length earlier))

-- a mark m of cell (i, j): the statement of that number is from i to j, it removed a relation, and none after it did
pub record LastNarrowed (start : ℕ → ℕ → ℕ) (statements : List Statement) (i j m : ℕ) : Type 0 where
  pub later : List Statement
  pub latest : Statement
  pub earlier : List Statement
  pub among : statements ≡ later ++ (latest ∷ earlier)
  pub number : m ≡ suc (length earlier)
  pub from_here : latest.from ≡ i
  pub to_there : latest.to ≡ j
  pub removes : stated_cell start (latest ∷ earlier) i j ≡ stated_cell start earlier i j → ⊥
  pub last : stated_cell start statements i j ≡ stated_cell start (latest ∷ earlier) i j

-- the marks of all cells, in rows of n
abbrev pub marks_of : (ℕ → ℕ → ℕ) → Said → List ℕ
marks_of start said = grid (regions said) (mark_of start said.statements)
