-- Sets of the eight relations. A set is a byte: relation r is a member where the bit of value 2 ^ r is 1.
use Rattle.std.specs.Prelude.{◌≡◌, ℕ, zero, suc, ◌+◌, ◌/◌, ◌%◌, ◌^◌, Bool, cond, eqb}
use Rattle.std.specs.Int.Bits.{bit_and, bit_or}

-- relation r is a member of the set s
unfoldable pub has : ℕ → ℕ → Bool
has s r = eqb (s / 2 ^ r % 2) 1

-- the set of relation r alone
abbrev pub only : ℕ → ℕ
only r = 2 ^ r

-- the set with no member
abbrev pub empty : ℕ
empty = 0

-- the set of all eight
abbrev pub universal : ℕ
universal = 255

-- the relations that both sets have
abbrev pub intersect : ℕ → ℕ → ℕ
intersect a b = bit_and a b

-- the relations that either set has
abbrev pub unite : ℕ → ℕ → ℕ
unite a b = bit_or a b

-- the test whether every member of a is one of b
abbrev pub subset : ℕ → ℕ → Bool
subset a b = eqb (intersect a b) a

-- every member of a is one of b
pub record Within (a b : ℕ) : Type 0 where
  pub meets : intersect a b ≡ a

-- the union of the sets f 0, f 1, .., f (n - 1)
unfoldable pub union_of : ℕ → (ℕ → ℕ) → ℕ
union_of zero f = empty
union_of (suc n) f = unite (union_of n f) (f n)

-- the union of the sets f r over the members r of s
unfoldable pub over : ℕ → (ℕ → ℕ) → ℕ
over s f = union_of 8 (λ r. cond (has s r) (f r) empty)

-- how many of the relations 0, .., n - 1 are members of s
unfoldable pub members_below : ℕ → ℕ → ℕ
members_below zero s = 0
members_below (suc n) s = members_below n s + cond (has s n) 1 0

-- how many members s has
unfoldable pub size : ℕ → ℕ
size s = members_below 8 s
