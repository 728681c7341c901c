-- The eight relations between two regions, each by its place in the order of the bits.
use Rattle.std.specs.Prelude.{ℕ}

-- no point in common
abbrev pub disjoint : ℕ
disjoint = 0

-- boundaries touch, interiors do not
abbrev pub meet : ℕ
meet = 1

-- the same region
abbrev pub equal : ℕ
equal = 2

-- in the interior of the other
abbrev pub inside : ℕ
inside = 3

-- within the other, touching its boundary
abbrev pub covered_by : ℕ
covered_by = 4

-- the other is inside
abbrev pub contains : ℕ
contains = 5

-- the other is covered
abbrev pub covers : ℕ
covers = 6

-- interiors meet, neither holds the other
abbrev pub overlap : ℕ
overlap = 7
