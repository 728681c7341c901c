-- Document 01's number and places of each answer of the writer.
use Rattle.std.specs.Prelude.{ℕ, Result, Ok, Err}
use Rattle.answer.specs.Answer.{Answer, accepts, refuses, answer}
use Rattle.scene.specs.Format.{most_bytes}
use Rattle.writer.specs.declared.Unwritten.{Unwritten}
use Rattle.writer.specs.declared.Unwritten.TheVariants.{OutOfRange, WrongLength, IdentifierZero, DeclaredTwice, EmptySet, TooLong, NoRoom}

abbrev pub answer_of : Result ℕ Unwritten → Answer
answer_of (Ok bytes) = accepts bytes
answer_of (Err OutOfRange) = refuses 1 0
answer_of (Err WrongLength) = refuses 2 0
answer_of (Err (IdentifierZero p)) = refuses 6 p.0
answer_of (Err (DeclaredTwice p)) = refuses 7 p.0
answer_of (Err (EmptySet i j)) = answer 10 i.0 j.0 0 0
answer_of (Err TooLong) = refuses 3 most_bytes
answer_of (Err NoRoom) = refuses 12 0
