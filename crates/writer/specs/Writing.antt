-- What writing a scene comes to.
use Rattle.std.specs.Prelude.{ℕ, ◌*◌, Bool, not, ◌||◌, List, eqb, ltb, length, take}
use Rattle.lists.specs.Least.{least}
use Rattle.region.specs.Lookup.{place, identifier}
use Rattle.region.specs.Named.{identifier_at}
use Rattle.answer.specs.Answer.{refuses, answer}
use Rattle.answer.specs.Ending.{Ending, accepted, refused, stop}
use Rattle.matrix.specs.Square.{in_range, has_square}
use Rattle.matrix.specs.Cells.{row, column, first_empty}
use Rattle.filing.specs.Said.{naming}
use Rattle.filing.specs.Places.{place_of, is_found}
use Rattle.scene.specs.Format.{most_bytes}
use Rattle.writer.specs.Scene.{scene_of}

-- the scene is written; the count is its length
abbrev pub written : List ℕ → Ending (List ℕ)
written scene = accepted scene (length scene)

-- a refusal that names no place, a region or a cell
abbrev pub refused_with : ℕ → Ending (List ℕ)
refused_with number = refused (refuses number 0)

abbrev pub refused_region : ℕ → ℕ → Ending (List ℕ)
refused_region number p = refused (refuses number p)

abbrev pub refused_cell : ℕ → ℕ → ℕ → Ending (List ℕ)
refused_cell number i j = refused (answer number i j 0 0)

-- the identifier at a place is 0
abbrev pub is_zero : List ℕ → ℕ → Bool
is_zero identifiers p = eqb (identifier_at identifiers (place p)) 0

-- the identifier at a place names an earlier place too
abbrev pub is_repeated : List ℕ → ℕ → Bool
is_repeated identifiers p = is_found (place_of (naming (take p identifiers)) (identifier (identifier_at identifiers (place p))))

-- the least place whose identifier is 0 or a repeated one; n if there is none
unfoldable pub first_bad : ℕ → List ℕ → ℕ
first_bad n identifiers = least n (λ p. is_zero identifiers p || is_repeated identifiers p)

-- 6 and 7 by place, 10 for the first empty cell, 3 by exact length, 12 exactly when the buffer is shorter than the scene
unfoldable pub checked : ℕ → List ℕ → List ℕ → ℕ → Ending (List ℕ)
checked n identifiers cells room =
    let p : ℕ = first_bad n identifiers in
    let e : ℕ = first_empty (n * n) cells in
    let scene : List ℕ = scene_of n identifiers cells in
    stop (ltb p n) (stop (is_zero identifiers p) (refused_region 6 p) (λ _. refused_region 7 p))
    (λ _. stop (ltb e (n * n)) (refused_cell 10 (row n e) (column n e))
    (λ _. stop (ltb most_bytes (length scene)) (refused (refuses 3 most_bytes))
    (λ _. stop (ltb room (length scene)) (refused_with 12) (λ _. written scene))))

-- the whole call: n outside 1 to 64 is 1; other than n identifiers or n² cells is 2
unfoldable pub write_of : ℕ → List ℕ → List ℕ → ℕ → Ending (List ℕ)
write_of n identifiers cells room =
    stop (not (in_range n)) (refused_with 1)
    (λ _. stop (not (eqb (length identifiers) n) || not (has_square n cells)) (refused_with 2)
    (λ _. checked n identifiers cells room))
