-- How long a line is.
use mathlib.Core.Path.{◌≡◌}
use mathlib.Core.List.{List, [], ◌∷◌}
use Prim.Native.Nat.{ℕ, ◌+◌}
use native.Mathlib.Omega.{arith}
use lib.ListN.{length, length-append}
use Rattle.text.specs.Line.{line}

-- the last field and the line feed
pub length_last : (field : List ℕ) → length (line (field ∷ [])) ≡ length field + 1
unfolding line
length_last field = length-append field (10 ∷ [])

-- a field, the space behind it and what follows
pub length_more : (field next : List ℕ) (rest : List (List ℕ)) → length (line (field ∷ next ∷ rest)) ≡ length field + 1 + length (line (next ∷ rest))
unfolding line
length_more field next rest = omega (arith, length-append field (32 ∷ line (next ∷ rest)))
