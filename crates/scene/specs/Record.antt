-- A record of a scene, judged against what was said before it.
use Rattle.std.specs.Prelude.{ℕ, ◌+◌, ◌-◌, cond, List, Option, Some, None, length, get_or, leb, ltb, eqb}
use Rattle.lists.specs.BigEndian.{number_at}
use Rattle.region.specs.declared.Place.{Place}
use Rattle.region.specs.Lookup.{identifier}
use Rattle.matrix.specs.Square.{most_regions}
use Rattle.filing.specs.Said.{Said, regions}
use Rattle.filing.specs.Places.{place_of}
use Rattle.scene.specs.Format.{region_kind, statement_kind, end_kind, length_of}

-- what a record does: it declares an identifier, states a set from one place to another, ends the scene, or fails, by number and
-- offset in the scene
pub data Judged : Type 0 where
  declares : ℕ → Judged
  states : Place → Place → ℕ → Judged
  ends : Judged
  fails : ℕ → ℕ → Judged

-- the place that was found, and else a failure
abbrev pub at_place : Option Place → (Place → Judged) → Judged → Judged
at_place (Some p) f missing = f p
at_place None f missing = missing

-- region: short body 4, identifier 0 6, declared twice 7, the 65th 8
unfoldable pub judged_region : List ℕ → Said → ℕ → Judged
judged_region scene said at =
    let name : ℕ = number_at scene (at + 1) in
    cond (ltb (length scene - at) (length_of region_kind)) (fails 4 at)
    (cond (eqb name 0) (fails 6 at)
    (at_place (place_of said (identifier name)) (λ p. fails 7 at)
    (cond (leb most_regions (regions said)) (fails 8 at) (declares name))))

-- statement: short body 4, A undeclared 9, B undeclared 9, set empty 10
unfoldable pub judged_statement : List ℕ → Said → ℕ → Judged
judged_statement scene said at =
    let set : ℕ = get_or scene (at + 9) 0 in
    cond (ltb (length scene - at) (length_of statement_kind)) (fails 4 at)
    (at_place (place_of said (identifier (number_at scene (at + 1))))
    (λ a. at_place (place_of said (identifier (number_at scene (at + 5))))
    (λ b. cond (eqb set 0) (fails 10 at) (states a b set))
    (fails 9 at))
    (fails 9 at))

-- end: no region 1, then bytes left over 11
unfoldable pub judged_end : List ℕ → Said → ℕ → Judged
judged_end scene said at = cond (eqb (regions said) 0) (fails 1 at) (cond (ltb (at + 1) (length scene)) (fails 11 (at + 1)) ends)

-- no byte where a record should start: 4 at the scene's length; then by kind; an unknown kind is 5
unfoldable pub record_at : List ℕ → Said → ℕ → Judged
record_at scene said at =
    let kind : ℕ = get_or scene at 0 in
    cond (leb (length scene) at) (fails 4 (length scene))
    (cond (eqb kind region_kind) (judged_region scene said at)
    (cond (eqb kind statement_kind) (judged_statement scene said at)
    (cond (eqb kind end_kind) (judged_end scene said at) (fails 5 at))))
