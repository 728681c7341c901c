-- Numbers in decimal, as bytes.
use Rattle.std.specs.Prelude.{ℕ, zero, suc, ◌+◌, ◌/◌, ◌%◌, cond, List, [], ◌∷◌, ◌++◌, ltb}

-- the character of a digit
abbrev pub digit : ℕ → ℕ
digit d = 48 + d

-- x in decimal, with at most `more` digits before the last
unfoldable pub decimal_up_to : ℕ → ℕ → List ℕ
decimal_up_to zero x = digit (x % 10) ∷ []
decimal_up_to (suc more) x = cond (ltb x 10) (digit x ∷ []) (decimal_up_to more (x / 10) ++ (digit (x % 10) ∷ []))

-- x in decimal, without leading zeros; a number of 64 bits has at most 20 digits
abbrev pub decimal : ℕ → List ℕ
decimal x = decimal_up_to 19 x
