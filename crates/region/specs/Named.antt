-- The way back from a place to the identifier of the region there.
use Rattle.std.specs.Prelude.{ℕ, List, get_or}
use Rattle.region.specs.declared.Place.{Place}

-- the identifier that stands at the place; 0, which no region has, past the last
abbrev pub identifier_at : List ℕ → Place → ℕ
identifier_at identifiers p = get_or identifiers p.0 0
