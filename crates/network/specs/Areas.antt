-- The two lent work areas, and in which of them the matrix stands.
use Rattle.std.specs.Prelude.{ℕ, ◌%◌, Bool, true, false, cond, eqb}
use Rattle.network.specs.declared.Area.{Area}
use Rattle.network.specs.declared.Area.TheVariants.{First, Second}

abbrev pub other : Area → Area
other First = Second
other Second = First

-- what belongs to the area named
abbrev pub chosen : {X : Type 0} → Area → X → X → X
chosen First x y = x
chosen Second x y = y

abbrev pub same_area : Area → Area → Bool
same_area First First = true
same_area First Second = false
same_area Second First = false
same_area Second Second = true

-- the area that holds the matrix after so many rounds from the one named: every round changes it
abbrev pub holds : Area → ℕ → Area
holds area count = cond (eqb (count % 2) 0) area (other area)
