-- Numbers of 32 bits and of 16 bits as bytes, big-endian.
use Rattle.std.specs.Prelude.{cond, List, [], ◌∷◌, ◌++◌, ℕ, zero, suc, ◌+◌, ◌*◌, ◌/◌, ◌%◌, ◌<◌, leb, length, get_or}
use Rattle.std.proofs.lemmas.List.Edits.{sets}

-- every entry of a list is a byte
pub record AllBytes (l : List ℕ) : Type 0 where
  pub small : (k : ℕ) → get_or l k 0 < 256

-- the number whose four bytes begin at an offset
abbrev pub number_at : List ℕ → ℕ → ℕ
number_at s at = get_or s at 0 * 16777216 + get_or s (at + 1) 0 * 65536 + get_or s (at + 2) 0 * 256 + get_or s (at + 3) 0

-- a number as its four bytes
abbrev pub big_endian : ℕ → List ℕ
big_endian x = x / 16777216 % 256 ∷ x / 65536 % 256 ∷ x / 256 % 256 ∷ x % 256 ∷ []

-- an area after bytes are put at an offset, if all of them fit
abbrev pub bytes_put : List ℕ → ℕ → List ℕ → List ℕ
bytes_put area at bytes = cond (leb (at + length bytes) (length area)) (sets area at bytes) area

-- an area after a number's four bytes are
abbrev pub number_put : List ℕ → ℕ → ℕ → List ℕ
number_put area at x = bytes_put area at (big_endian x)

-- numbers as bytes, one after the other
unfoldable pub numbers_bytes : List ℕ → List ℕ
numbers_bytes [] = []
numbers_bytes (x ∷ xs) = big_endian x ++ numbers_bytes xs

-- the numbers that bytes make, four bytes each: the first `count`
unfoldable pub numbers_in : ℕ → List ℕ → List ℕ
numbers_in zero bytes = []
numbers_in (suc count) bytes = numbers_in count bytes ++ (number_at bytes (4 * count) ∷ [])

-- a number of 16 bits as its two bytes
abbrev pub two_bytes : ℕ → List ℕ
two_bytes x = x / 256 % 256 ∷ x % 256 ∷ []

-- an area after a number's two bytes are put at an offset, if both fit
abbrev pub two_bytes_put : List ℕ → ℕ → ℕ → List ℕ
two_bytes_put area at x = bytes_put area at (two_bytes x)

-- numbers as bytes, two bytes each, one after the other
unfoldable pub two_bytes_each : List ℕ → List ℕ
two_bytes_each [] = []
two_bytes_each (x ∷ xs) = two_bytes x ++ two_bytes_each xs
