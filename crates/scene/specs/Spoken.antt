-- The statements as they stand in the file, by identifiers, and what they make of a pair.
use Rattle.std.specs.Prelude.{◌≡◌, ℕ, zero, suc, ◌+◌, cond, ◌&&◌, List, [], ◌∷◌, ◌++◌, eqb, length, get_or}
use Rattle.lists.specs.BigEndian.{number_at}
use Rattle.relation.specs.Sets.{universal, intersect}
use Rattle.scene.specs.Format.{region_kind, statement_kind, length_of}

-- a statement as it stands in the file: two identifiers and a set
pub record Spoken : Type 0 where
  pub from : ℕ
  pub to : ℕ
  pub set : ℕ

-- the statement record at an offset
abbrev pub spoken_at : List ℕ → ℕ → Spoken
spoken_at scene at = record { from = number_at scene (at + 1); to = number_at scene (at + 5); set = get_or scene (at + 9) 0 }

-- what a record adds to the statements behind it, by its kind: a statement, nothing for a region; any other kind ends the list
abbrev pub adds : List ℕ → ℕ → (ℕ → List Spoken) → List Spoken
adds scene at rest =
    cond (eqb (get_or scene at 0) region_kind) (rest (at + length_of region_kind))
    (cond (eqb (get_or scene at 0) statement_kind) (spoken_at scene at ∷ rest (at + length_of statement_kind)) [])

-- the statement records of a scene from an offset on, in the order of the file
unfoldable pub spoken_from : ℕ → List ℕ → ℕ → List Spoken
spoken_from zero scene at = []
spoken_from (suc more) scene at = adds scene at (spoken_from more scene)

unfoldable pub spoken : List ℕ → List Spoken
spoken scene = spoken_from (suc (length scene)) scene 0

-- the universal set intersected with the sets of the statements from one identifier to another
unfoldable pub among : List Spoken → ℕ → ℕ → ℕ
among [] a b = universal
among (s ∷ rest) a b = cond (eqb s.from a && eqb s.to b) (intersect s.set (among rest a b)) (among rest a b)

-- the statement numbered m, from 1, is from one identifier to the other; it removed a relation, and none after it did
pub record MarkedBy (statements : List Spoken) (a b m : ℕ) : Type 0 where
  pub earlier : List Spoken
  pub statement : Spoken
  pub later : List Spoken
  pub file : statements ≡ earlier ++ (statement ∷ later)
  pub number : m ≡ suc (length earlier)
  pub from_is : statement.from ≡ a
  pub to_is : statement.to ≡ b
  pub removes : among (earlier ++ (statement ∷ [])) a b ≡ among earlier a b → ⊥
  pub last : among statements a b ≡ among (earlier ++ (statement ∷ [])) a b
