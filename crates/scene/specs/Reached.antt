-- How far a reading comes: the offsets that its records reach, with what they have said.
use Rattle.std.specs.Prelude.{◌≡◌, List, ℕ, ◌+◌, ◌≤◌, length, get_or}
use Rattle.lists.specs.BigEndian.{number_at}
use Rattle.region.specs.declared.Place.{Place}
use Rattle.filing.specs.Said.{Said, silent, declared, stated}
use Rattle.scene.specs.Format.{region_kind, statement_kind, length_of}
use Rattle.scene.specs.Record.{declares, states, record_at}

-- the records before the offset are good, and say so much
pub data Reached (scene : List ℕ) : ℕ → Said → Type 0 where
  start : Reached scene 0 silent
  region : {at : ℕ} {said : Said} (name : ℕ) → Reached scene at said → record_at scene said at ≡ declares name
      → Reached scene (at + length_of region_kind) (declared said name)
  statement : {at : ℕ} {said : Said} (a b : Place) (set : ℕ) → Reached scene at said → record_at scene said at ≡ states a b set
      → Reached scene (at + length_of statement_kind) (stated said a b set)

-- a record of a kind stands at the offset, with all its bytes
pub record Whole (scene : List ℕ) (at kind : ℕ) : Type 0 where
  pub fits : at + length_of kind ≤ length scene
  pub kind_is : get_or scene at 0 ≡ kind

-- a region record that is whole and whose identifier is not 0
pub record Region (scene : List ℕ) (at name : ℕ) : Type 0 where
  pub whole : Whole scene at region_kind
  pub name_is : number_at scene (at + 1) ≡ name
  pub name_not_zero : name ≡ 0 → ⊥
