-- The two work areas in which a run is made, and that they stay the caller's.
use Rattle.std.specs.Prelude.{◌≡◌}
use Rattle.network.specs.declared.leaving.WorkAreas.{WorkAreas}

-- of as many regions, and whoever lends them sees what is written there
pub record SameAreas (before after : WorkAreas) : Type 0 where
  pub regions : after.n ≡ before.n
  pub first : after.first.ghost_name ≡ before.first.ghost_name
  pub second : after.second.ghost_name ≡ before.second.ghost_name
