-- Which place an identifier names among what was said: whoever reads or writes judges by this alone.
use Rattle.std.specs.Prelude.{Bool, Option, is_some}
use Rattle.region.specs.Lookup.{lookup_of}
use Rattle.region.specs.declared.Identifier.{Identifier}
use Rattle.region.specs.declared.Place.{Place}
use Rattle.filing.specs.Said.{Said, regions}

-- what looking the identifier up among the declared ones finds
unfoldable pub place_of : Said → Identifier → Option Place
place_of said wanted = lookup_of said.identifiers (regions said) wanted

-- a place is found
abbrev pub is_found : Option Place → Bool
is_found found = is_some found
