-- Reading a scene, record by record.
use Rattle.std.specs.Prelude.{ℕ, zero, suc, ◌+◌, not, List, ltb, length}
use Rattle.answer.specs.Answer.{refuses}
use Rattle.answer.specs.Ending.{Ending, accepted, refused, stop}
use Rattle.filing.specs.Said.{Said, regions, silent, declared, stated}
use Rattle.filing.specs.Areas.{Areas, are_lent}
use Rattle.scene.specs.Format.{most_bytes, region_kind, statement_kind, length_of}
use Rattle.scene.specs.Record.{Judged, declares, states, ends, fails, record_at}

-- an accepted scene gives all that it says; the count is that of its regions
abbrev pub accepted_said : Said → Ending Said
accepted_said said = accepted said (regions said)

-- a refused one names an offset in the scene
abbrev pub refused_at : ℕ → ℕ → Ending Said
refused_at number offset = refused (refuses number offset)

-- what follows a record that begins at an offset: the next record, or the end
abbrev pub follows : (ℕ → Said → Ending Said) → ℕ → Said → Judged → Ending Said
follows rest at said (declares name) = rest (at + length_of region_kind) (declared said name)
follows rest at said (states a b set) = rest (at + length_of statement_kind) (stated said a b set)
follows rest at said ends = accepted_said said
follows rest at said (fails number offset) = refused_at number offset

-- the records from an offset on. `more` is how many may still be read; a scene has no more records than bytes
unfoldable pub read_from : ℕ → List ℕ → ℕ → Said → Ending Said
read_from zero scene at said = refused_at 4 (length scene)
read_from (suc more) scene at said = follows (read_from more scene) at said (record_at scene said at)

-- all records of a scene
abbrev pub records : List ℕ → Ending Said
records scene = read_from (suc (length scene)) scene 0 silent

-- a scene, whatever it is read into: one over the limit is 3
unfoldable pub read_scene : List ℕ → Ending Said
read_scene scene = stop (ltb most_bytes (length scene)) (refused_at 3 most_bytes) (λ _. records scene)

-- the whole call: areas of other lengths are 2
unfoldable pub read_of : List ℕ → Areas → Ending Said
read_of scene areas = stop (not (are_lent areas)) (refused_at 2 0) (λ _. read_scene scene)
