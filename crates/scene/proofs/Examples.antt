-- Document 01's example scene and its variant, by computation.
use mathlib.Core.Path.{◌≡◌, refl}
use mathlib.Core.List.{List, [], ◌∷◌, ◌++◌}
use Prim.Native.Nat.{ℕ}
use Rattle.region.specs.Lookup.{lookup_of}
use Rattle.lists.specs.Tabled.{tabled}
use Rattle.matrix.specs.Cells.{grid}
use Rattle.filing.specs.Said.{Said}
use Rattle.filing.specs.Places.{place_of}
use Rattle.filing.specs.Stated.{stated_cell, cells_of}
use Rattle.scene.specs.Format.{length_of, region_record, statement_record, end_kind}
use Rattle.scene.specs.Record.{judged_region, judged_statement, judged_end, record_at}
use Rattle.scene.specs.Reading.{accepted_said, refused_at, read_from, read_scene}
use Rattle.scene.specs.Reads.{starting_cell}

-- the example, with its third identifier
unfoldable pub example : ℕ → List ℕ
example third =
    region_record 7 ++ region_record 9 ++ region_record third ++ statement_record 7 9 8 ++ statement_record 9 4 8 ++ (end_kind ∷ [])

-- what it says: region 7 at place 0, 9 at 1 and 4 at 2; 7 is inside 9, and 9 inside 4
unfoldable pub example_says : Said
example_says =
    record {
      identifiers = 7 ∷ 9 ∷ 4 ∷ [];
      statements = record { from = 1; to = 2; set = 8 } ∷ record { from = 0; to = 1; set = 8 } ∷ [];
    }

pub example_accepted : read_scene (example 4) ≡ accepted_said example_says
unfolding read_scene read_from record_at judged_region judged_statement judged_end length_of place_of lookup_of
    example example_says
example_accepted = refl

pub example_cells_lem : cells_of starting_cell example_says ≡ 255 ∷ 8 ∷ 255 ∷ 255 ∷ 255 ∷ 8 ∷ 255 ∷ 255 ∷ 255 ∷ []
unfolding grid tabled stated_cell example_says
example_cells_lem = refl

-- with the third identifier 9 as well, 9 is declared twice
pub example_twice : read_scene (example 9) ≡ refused_at 7 10
unfolding read_scene read_from record_at judged_region judged_statement judged_end length_of place_of lookup_of
    example
example_twice = refl
