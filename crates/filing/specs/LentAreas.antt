-- The areas that a caller lends, as what they hold, and that they stay the caller's.
use Rattle.std.specs.Prelude.{◌≡◌}
use Rattle.filing.specs.declared.LentAreas.{LentAreas}
use Rattle.filing.specs.Areas.{Areas, holding}

-- what they hold
abbrev pub held : LentAreas → Areas
held lent = holding lent.identifiers.now lent.cells.now lent.marks.now

-- whoever lends them sees what is written there
pub record SameAreas (before after : LentAreas) : Type 0 where
  pub identifiers : after.identifiers.ghost_name ≡ before.identifiers.ghost_name
  pub cells : after.cells.ghost_name ≡ before.cells.ghost_name
  pub marks : after.marks.ghost_name ≡ before.marks.ghost_name
