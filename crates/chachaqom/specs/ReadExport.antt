-- What `chachaqom_read` promises: the returned number, the 20 answer bytes and every byte of the three areas.
use Rattle.std.specs.Prelude.{◌≡◌, ℕ, cond, List, [], eqb, length, replicate}
use Rattle.lists.specs.BigEndian.{numbers_bytes, two_bytes_each}
use Rattle.answer.specs.Ending.{Ending, answered}
use Rattle.answer.specs.Bytes.{Answers, left_with}
use Rattle.filing.specs.Said.{Said}
use Rattle.filing.specs.Areas.{Areas, holding, lent_identifiers, lent_cells}
use Rattle.scene.specs.Reading.{read_of}
use Rattle.scene.specs.Reads.{areas_after}

-- so many zeros, if an area has the bytes of so many entries; an area of another length lends none, and none are too few
abbrev pub lent_in : ℕ → ℕ → List ℕ → List ℕ
lent_in bytes entries area = cond (eqb (length area) bytes) (replicate entries 0) []

-- the areas that are lent as bytes: 64 identifiers in 256 bytes, 4,096 marks in 8,192 bytes
abbrev pub lent_bytes : List ℕ → List ℕ → List ℕ → Areas
lent_bytes identifiers cells marks = holding (lent_in 256 lent_identifiers identifiers) cells (lent_in 8192 lent_cells marks)

-- the identifiers' bytes after a reading: as they were after 2, and else those of the 64 numbers that the reader leaves
abbrev pub identifier_bytes_after : Ending Said → List ℕ → List ℕ → List ℕ → List ℕ
identifier_bytes_after ending identifiers cells marks =
    cond (eqb (answered ending).number 2) identifiers (numbers_bytes (areas_after ending (lent_bytes identifiers cells marks)).identifiers)

-- the marks' bytes after a reading, in the same way, two bytes for each of the 4,096 that the reader leaves
abbrev pub mark_bytes_after : Ending Said → List ℕ → List ℕ → List ℕ → List ℕ
mark_bytes_after ending identifiers cells marks =
    cond (eqb (answered ending).number 2) marks (two_bytes_each (areas_after ending (lent_bytes identifiers cells marks)).marks)

-- the number, the answer and the three areas, before and after
pub record ReadExport (scene identifiers cells marks answer identifiers' cells' marks' answer' : List ℕ) (number : ℕ) : Type 0 where
  pub answers : Answers (answered (read_of scene (lent_bytes identifiers cells marks))) answer answer' number
  pub in_identifiers :
      identifiers' ≡ left_with answer (identifier_bytes_after (read_of scene (lent_bytes identifiers cells marks)) identifiers cells marks) identifiers
  pub in_cells :
      cells' ≡ left_with answer (areas_after (read_of scene (lent_bytes identifiers cells marks)) (lent_bytes identifiers cells marks)).cells cells
  pub in_marks :
      marks' ≡ left_with answer (mark_bytes_after (read_of scene (lent_bytes identifiers cells marks)) identifiers cells marks) marks
