-- What the iterator through the places of a word's bits has left.
use Rattle.std.specs.Prelude.{ℕ, List}
use Rattle.lanes.specs.declared.bits.Places.{Places}
use Rattle.lanes.specs.Places.{places}

-- the places of the bits that it still has
abbrev pub places_left : Places → List ℕ
places_left left = places left.0
