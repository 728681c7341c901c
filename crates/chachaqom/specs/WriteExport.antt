-- What `chachaqom_write` promises: the returned number, the 20 answer bytes and every byte of the buffer.
use Rattle.std.specs.Prelude.{◌≡◌, ℕ, ◌*◌, cond, List, [], eqb, length}
use Rattle.lists.specs.BigEndian.{AllBytes, numbers_in}
use Rattle.answer.specs.Ending.{answered}
use Rattle.answer.specs.Bytes.{Answers, left_with}
use Rattle.writer.specs.Writing.{write_of}
use Rattle.writer.specs.Writes.{buffer_after}

-- the identifiers that are lent as 4 n bytes; an area of another length lends none, and none are too few for every n in range
abbrev pub identifiers_lent : ℕ → List ℕ → List ℕ
identifiers_lent n bytes = cond (eqb (length bytes) (4 * n)) (numbers_in n bytes) []

-- the number, the answer and the buffer, before and after
pub record WriteExport (n : ℕ) (identifiers cells buffer answer buffer' answer' : List ℕ) (number : ℕ) : Type 0 where
  pub answers : Answers (answered (write_of n (identifiers_lent n identifiers) cells (length buffer))) answer answer' number
  pub in_buffer :
      buffer' ≡ left_with answer (buffer_after (write_of n (identifiers_lent n identifiers) cells (length buffer)) buffer) buffer
  -- identifiers and cells are bytes, by their type
  pub identifiers-bytes : AllBytes identifiers
  pub cells-bytes : AllBytes cells
