-- Document 01's number and offset of each answer of the reader.
use Rattle.std.specs.Prelude.{ℕ, Result, Ok, Err}
use Rattle.answer.specs.Answer.{Answer, accepts, refuses}
use Rattle.scene.specs.Format.{most_bytes}
use Rattle.scene.specs.declared.Refusal.{Refusal}
use Rattle.scene.specs.declared.Refusal.TheVariants.{NoRegion, CutShort, UnknownKind, IdentifierZero, DeclaredTwice}
use Rattle.scene.specs.declared.Refusal.TheVariants.{TooManyRegions, NotDeclared, EmptySet, BytesLeft}
use Rattle.scene.specs.declared.Unread.{Unread}
use Rattle.scene.specs.declared.Unread.TheVariants.{WrongLength, TooLong, Refused}

-- the number of a refused record
abbrev pub number_of : Refusal → ℕ
number_of NoRegion = 1
number_of CutShort = 4
number_of UnknownKind = 5
number_of IdentifierZero = 6
number_of DeclaredTwice = 7
number_of TooManyRegions = 8
number_of NotDeclared = 9
number_of EmptySet = 10
number_of BytesLeft = 11

-- the numbers of an answer
abbrev pub answer_of : Result ℕ Unread → Answer
answer_of (Ok regions) = accepts regions
answer_of (Err WrongLength) = refuses 2 0
answer_of (Err TooLong) = refuses 3 most_bytes
answer_of (Err (Refused refusal offset)) = refuses (number_of refusal) offset
