-- What was read and found, put into the definitions of a record.
use Rattle.std.proofs.Common.{◌≡◌, ◌∙◌, cond, List, ℕ, ◌+◌, ◌-◌, ◌≤◌, ◌<◌, length, get_or, take, Option, Some, None}
use borrow.Author.Tests.{eq-eqb, ne_eqb, lt-ltb, le-ltb}
use lib.Dec.{eqb, ltb, leb}
use lib.Seq.{length-take-le}
use Rattle.lists.specs.BigEndian.{number_at}
use Rattle.region.specs.Lookup.{identifier}
use Rattle.region.specs.declared.Place.{Place}
use Rattle.filing.specs.Said.{Said, naming}
use Rattle.filing.specs.Places.{place_of}
use Rattle.scene.specs.Format.{length_of}
use Rattle.scene.specs.Record.{declares, states, ends, fails, at_place, judged_region, judged_statement, judged_end}

-- ---- a region

module _ (scene : List ℕ) (said : Said) (at : ℕ) where
  pub short_region : length scene - at < 5 → judged_region scene said at ≡ fails 4 at
  unfolding judged_region length_of
  short_region h = rw (lt-ltb (length scene - at) 5 h)

  pub region_zero : 5 ≤ length scene - at → {name : ℕ} → name ≡ number_at scene (at + 1) → name ≡ 0 → judged_region scene said at ≡ fails 6 at
  unfolding judged_region length_of
  region_zero h {name} e z = rw (le-ltb (length scene - at) 5 h, ← e, eq-eqb name 0 z)

-- all bytes of the record are there, its identifier is not 0, and was looked up among the first entries of the area
pub record LookedUp (scene area : List ℕ) (count at name : ℕ) (found : Option Place) : Type 0 where
  pub whole : 5 ≤ length scene - at
  pub name_is : name ≡ number_at scene (at + 1)
  pub not_zero : name ≡ 0 → ⊥
  pub counted : count ≤ length area
  pub found-is : found ≡ place_of (naming (take count area)) (identifier name)

-- then what was found decides, and how many regions there are
pub by_found : {scene area : List ℕ} {count at name : ℕ} {found : Option Place} → LookedUp scene area count at name found
    → judged_region scene (naming (take count area)) at
    ≡ at_place found (λ p. fails 7 at) (cond (leb 64 count) (fails 8 at) (declares name))
unfolding judged_region length_of
by_found {scene} {area} {count} {at} {name} l =
    rw (
      le-ltb (length scene - at) 5 l.whole,
      ← l.name_is,
      ne_eqb name 0 l.not_zero,
      ← l.found-is,
      length-take-le count area l.counted,
    )

-- ---- a statement

module _ (scene : List ℕ) (said : Said) (at : ℕ) where
  pub short-statement : length scene - at < 10 → judged_statement scene said at ≡ fails 4 at
  unfolding judged_statement length_of
  short-statement h = rw (lt-ltb (length scene - at) 10 h)

  pub first_missing : 10 ≤ length scene - at → {found : Option Place} → found ≡ place_of said (identifier (number_at scene (at + 1)))
      → found ≡ None → judged_statement scene said at ≡ fails 9 at
  unfolding judged_statement length_of
  first_missing h looked e = rw (le-ltb (length scene - at) 10 h, ← looked, e)

-- all bytes of the record are there, its first identifier has a place, and its second was looked up
pub record FirstFound (scene : List ℕ) (said : Said) (at : ℕ) (from : Place) (found : Option Place) : Type 0 where
  pub whole : 10 ≤ length scene - at
  pub first-is : place_of said (identifier (number_at scene (at + 1))) ≡ Some from
  pub second_is : found ≡ place_of said (identifier (number_at scene (at + 5)))

-- then the second place and the set decide
module _ {scene : List ℕ} {said : Said} {at : ℕ} {from : Place} {found : Option Place} (l : FirstFound scene said at from found) where
  by_second : judged_statement scene said at
      ≡ at_place found (λ to. cond (eqb (get_or scene (at + 9) 0) 0) (fails 10 at) (states from to (get_or scene (at + 9) 0))) (fails 9 at)
  unfolding judged_statement length_of
  by_second = rw (le-ltb (length scene - at) 10 l.whole, l.first-is, ← l.second_is)

  pub second_missing : found ≡ None → judged_statement scene said at ≡ fails 9 at
  second_missing e = by_second ∙ rw e

  pub set-empty : {to : Place} → found ≡ Some to → get_or scene (at + 9) 0 ≡ 0 → judged_statement scene said at ≡ fails 10 at
  set-empty e z = by_second ∙ rw (e, eq-eqb (get_or scene (at + 9) 0) 0 z)

  pub set-stated : {to : Place} → found ≡ Some to → (get_or scene (at + 9) 0 ≡ 0 → ⊥)
      → judged_statement scene said at ≡ states from to (get_or scene (at + 9) 0)
  set-stated e z = by_second ∙ rw (e, ne_eqb (get_or scene (at + 9) 0) 0 z)

-- ---- the end

pub end_is : (scene area : List ℕ) (count at : ℕ) → count ≤ length area
    → judged_end scene (naming (take count area)) at
    ≡ cond (eqb count 0) (fails 1 at) (cond (ltb (at + 1) (length scene)) (fails 11 (at + 1)) ends)
unfolding judged_end
end_is scene area count at counted = rw (length-take-le count area counted)
