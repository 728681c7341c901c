-- Document 01's example scene, written from its identifiers and cells, and each refusal at a small example, by computation.
use mathlib.Core.Path.{◌≡◌, refl}
use mathlib.Core.List.{List, [], ◌∷◌}
use Prim.Native.Nat.{ℕ}
use Rattle.lists.specs.Least.{least, least_from}
use Rattle.region.specs.Lookup.{lookup_of}
use Rattle.matrix.specs.Square.{in_range, has_square}
use Rattle.matrix.specs.Cells.{first_empty}
use Rattle.filing.specs.Places.{place_of}
use Rattle.writer.specs.Scene.{region_records, statement_records, scene_of}
use Rattle.writer.specs.Writing.{written, refused_with, refused_region, refused_cell, first_bad, checked, write_of}

-- (0, 1) and (1, 2) are inside, nothing else is stated
abbrev pub example_cells : List ℕ
example_cells = 255 ∷ 8 ∷ 255 ∷ 255 ∷ 255 ∷ 8 ∷ 255 ∷ 255 ∷ 255 ∷ []

-- 7, 9 and 4 by place: three regions, two statements, End
abbrev pub example_scene : List ℕ
example_scene =
    1 ∷ 0 ∷ 0 ∷ 0 ∷ 7 ∷ 1 ∷ 0 ∷ 0 ∷ 0 ∷ 9 ∷ 1 ∷ 0 ∷ 0 ∷ 0 ∷ 4
    ∷ 2 ∷ 0 ∷ 0 ∷ 0 ∷ 7 ∷ 0 ∷ 0 ∷ 0 ∷ 9 ∷ 8 ∷ 2 ∷ 0 ∷ 0 ∷ 0 ∷ 9 ∷ 0 ∷ 0 ∷ 0 ∷ 4 ∷ 8 ∷ 3 ∷ []

-- a buffer of just its 36 bytes is enough, a byte less is 12; 9 again is 7 at the later place, 0 is 6 though a later place repeats 7;
-- an empty cell is 10 at its row and column; two identifiers are 2, and no region is 1
pub examples : (write_of 3 (7 ∷ 9 ∷ 4 ∷ []) example_cells 36 ≡ written example_scene)
    × (write_of 3 (7 ∷ 9 ∷ 4 ∷ []) example_cells 35 ≡ refused_with 12)
    × (write_of 3 (7 ∷ 9 ∷ 9 ∷ []) example_cells 36 ≡ refused_region 7 2)
    × (write_of 3 (7 ∷ 0 ∷ 7 ∷ []) example_cells 36 ≡ refused_region 6 1)
    × (write_of 2 (7 ∷ 9 ∷ []) (255 ∷ 8 ∷ 0 ∷ 0 ∷ []) 36 ≡ refused_cell 10 1 0)
    × (write_of 3 (7 ∷ 9 ∷ []) example_cells 36 ≡ refused_with 2)
    × (write_of 0 [] [] 36 ≡ refused_with 1)
unfolding write_of checked in_range has_square first_bad first_empty place_of lookup_of least least_from scene_of region_records statement_records
examples = (refl, refl, refl, refl, refl, refl, refl)
