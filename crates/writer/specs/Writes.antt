-- What the writer promises: its answer and every byte of the buffer.
use Rattle.std.specs.Prelude.{◌≡◌, ℕ, List, length, Result}
use Rattle.lists.specs.Laid.{laid}
use Rattle.answer.specs.Ending.{Ending, accepted, refused, answered}
use Rattle.writer.specs.Writing.{write_of}
use Rattle.writer.specs.Numbers.{answer_of}
use Rattle.writer.specs.declared.Unwritten.{Unwritten}

-- the buffer afterwards: the scene in front of what it held, or untouched by a refusal
unfoldable pub buffer_after : Ending (List ℕ) → List ℕ → List ℕ
buffer_after (accepted scene count) buffer = laid count scene buffer
buffer_after (refused numbers) buffer = buffer

-- what `write` promises of the answer and of the buffer, before and after
pub record Writes (n : ℕ) (identifiers cells before after : List ℕ) (writing : Result ℕ Unwritten) : Type 0 where
  pub answer : answer_of writing ≡ answered (write_of n identifiers cells (length before))
  pub buffer : after ≡ buffer_after (write_of n identifiers cells (length before)) before
