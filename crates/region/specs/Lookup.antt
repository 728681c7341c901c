-- Looking an identifier up: the only passage from an identifier to a place.
use Rattle.std.specs.Prelude.{ℕ, ◌==◌, List, Option, option_map, position, take}
use Rattle.region.specs.declared.Identifier.{Identifier}
use Rattle.region.specs.declared.Place.{Place}

-- a number as a place
abbrev pub place : ℕ → Place
place p = record { 0 = p }

-- a number as an identifier
abbrev pub identifier : ℕ → Identifier
identifier x = record { 0 = x }

-- what looking up answers: the place of the first of the first `count` entries that holds the identifier, or none
unfoldable pub lookup_of : List ℕ → ℕ → Identifier → Option Place
lookup_of identifiers count wanted = option_map place (position (λ entry. entry == wanted.0) (take count identifiers))
