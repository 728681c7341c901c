-- What the place that an identifier names says of the identifiers declared, and what these say of it.
use Rattle.std.proofs.Common.{◌≡◌, refl, sym, arith, List, ℕ, ◌<◌, get_or, take, Option, Some, None}
use Rattle.std.proofs.Math.Seq.{take-length}
use borrow.Author.Tests.{ne_eqb}
use Rattle.region.specs.Lookup.{place, identifier, lookup_of}
use Rattle.region.specs.declared.Identifier.{Identifier}
use Rattle.region.specs.declared.Place.{Place}
use Rattle.region.proofs.LookupLaws.{Holds, lookup_found, lookup_nothing, lookup_of_entry, finds_nothing}
use Rattle.filing.specs.Said.{Said, naming, regions}
use Rattle.filing.specs.Places.{place_of}

-- looking up among the first entries of an area is asking what these name
pub place_front : (area : List ℕ) (count : ℕ) (wanted : Identifier) → lookup_of area count wanted ≡ place_of (naming (take count area)) wanted
unfolding place_of lookup_of
place_front area count wanted = rw (take-length (take count area)) refl

-- it is the identifiers that name places, whatever was stated
pub place_named : (said : Said) (wanted : Identifier) → place_of (naming said.identifiers) wanted ≡ place_of said wanted
unfolding place_of
place_named said wanted = refl

module _ (said : Said) (wanted : Identifier) where
  -- a place that is found holds the identifier, the first to do so
  pub place_found : (p : Place) → place_of said wanted ≡ Some p → Holds said.identifiers (regions said) p.0 wanted.0
  unfolding place_of
  place_found p e = lookup_found said.identifiers (regions said) wanted p.0 e

  -- where none is found, no place holds it
  pub place_nothing : place_of said wanted ≡ None → (k : ℕ) → k < regions said → get_or said.identifiers k 0 ≡ wanted.0 → ⊥
  unfolding place_of
  place_nothing e k h = lookup_nothing said.identifiers (regions said) wanted e k h h

  -- and the other way
  pub place_new : ((k : ℕ) → k < regions said → get_or said.identifiers k 0 ≡ wanted.0 → ⊥) → place_of said wanted ≡ None
  unfolding place_of
  place_new new =
      sym (finds_nothing said.identifiers (regions said) wanted (regions said) (omega arith)
      (λ k h. ne_eqb (get_or said.identifiers k 0) wanted.0 (new k h)))

  -- either a place is found or none is
  pub by_place : {C : Type 0} → ((p : Place) → place_of said wanted ≡ Some p → C) → (place_of said wanted ≡ None → C) → C
  by_place {C} f g = by_found (place_of said wanted) refl
    where
      by_found : (found : Option Place) → place_of said wanted ≡ found → C
      by_found (Some p) e = f p e
      by_found None e = g e

-- an identifier names its own place where no place before holds it
pub place-there : (said : Said) (p : ℕ) → p < regions said
    → ((k : ℕ) → k < p → get_or said.identifiers k 0 ≡ get_or said.identifiers p 0 → ⊥)
    → place_of said (identifier (get_or said.identifiers p 0)) ≡ Some (place p)
unfolding place_of
place-there said p h before = lookup_of_entry said.identifiers (regions said) p h h before
