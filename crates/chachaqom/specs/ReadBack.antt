-- An answer's numbers and a scene's marks, read back from their bytes as a host in C reads them.
use Rattle.std.specs.Prelude.{◌≡◌, List, ℕ, ◌+◌, ◌*◌, get_or}
use Rattle.lists.specs.BigEndian.{number_at}
use Rattle.answer.specs.Answer.{Answer}

-- each of the five numbers stands at its place, whole
pub record ReadBack (a : Answer) (bytes : List ℕ) : Type 0 where
  pub number : number_at bytes 0 ≡ a.number
  pub first : number_at bytes 4 ≡ a.first
  pub second : number_at bytes 8 ≡ a.second
  pub third : number_at bytes 12 ≡ a.third
  pub count : number_at bytes 16 ≡ a.count

-- the mark that stands in the two bytes of cell k
abbrev pub mark_at : List ℕ → ℕ → ℕ
mark_at bytes k = get_or bytes (2 * k) 0 * 256 + get_or bytes (2 * k + 1) 0
