-- An answer as 20 bytes for a host in C, and what every export does with the area that it is lent for them.
use Rattle.std.specs.Prelude.{◌≡◌, Bool, cond, List, ◌++◌, ℕ, eqb, length}
use Rattle.lists.specs.BigEndian.{big_endian}
use Rattle.answer.specs.Answer.{Answer}

-- the five numbers, each in four bytes
abbrev pub answer_bytes : Answer → List ℕ
answer_bytes a =
    big_endian a.number ++ big_endian a.first ++ big_endian a.second ++ big_endian a.third ++ big_endian a.count

-- an answer area is exactly 20 bytes
abbrev pub fits : List ℕ → Bool
fits area = eqb (length area) 20

-- what an export promises of its number and its answer area: with an area of another length it is 2, and nothing is written
pub record Answers (numbers : Answer) (area area' : List ℕ) (number : ℕ) : Type 0 where
  pub returned : number ≡ cond (fits area) numbers.number 2
  pub in_answer : area' ≡ cond (fits area) (answer_bytes numbers) area

-- what it leaves in another lent area: nothing is written there either where the answer area has another length
abbrev pub left_with : List ℕ → List ℕ → List ℕ → List ℕ
left_with answer after before = cond (fits answer) after before
