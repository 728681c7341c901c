-- What the library's searches over cells are by the first empty cell and by the first change.
use mathlib.Core.Path.{◌≡◌, ap, ◌∙◌}
use mathlib.Core.Bool.{not}
use mathlib.Core.List.{List}
use Prim.Native.Nat.{ℕ, ◌≤◌, ◌<◌}
use native.Mathlib.Omega.{arith}
use lib.Dec.{eqb}
use lib.ListN.{length, get_or}
use Rattle.std.proofs.Common.{min, Some, None}
use Rattle.std.specs.List.{position, zip}
use Rattle.std.proofs.lemmas.Slice.Zip.{length-zip, get_or-zip}
use Rattle.lists.specs.Least.{found_below}
use Rattle.lists.proofs.LeastLaws.{least-same}
use Rattle.lists.proofs.Found.{found_some, found_none, position-least}
use Rattle.matrix.specs.Cells.{first_empty, first_change}

pub position_empty : (cells : List ℕ) → position (λ cell. eqb cell 0) cells ≡ found_below (length cells) (first_empty (length cells) cells)
unfolding first_empty
position_empty cells = position-least (λ cell. eqb cell 0) cells 0

-- so a cell that was found is the first empty one, and where none was found there is none
pub empty_found : (cells : List ℕ) {p : ℕ} → Some p ≡ position (λ cell. eqb cell 0) cells
    → (p ≡ first_empty (length cells) cells) × (p < length cells)
empty_found cells e =
    let h = found_some (length cells) (first_empty (length cells) cells) (e ∙ position_empty cells) in (h.0, omega arith)

pub none_found : (cells : List ℕ) → None ≡ position (λ cell. eqb cell 0) cells → length cells ≤ first_empty (length cells) cells
none_found cells e = found_none (length cells) (first_empty (length cells) cells) (e ∙ position_empty cells)

pub position_change : (new old : List ℕ)
    → position (λ both. not (eqb both.0 both.1)) (zip new old)
    ≡ found_below (min (length new) (length old)) (first_change (min (length new) (length old)) new old)
unfolding first_change
position_change new old =
    position-least (λ (both : ℕ × ℕ). not (eqb both.0 both.1)) (zip new old) (0, 0)
    ∙ rw length-zip
    (ap (found_below (min (length new) (length old)))
    (least-same (min (length new) (length old)) (λ k. not (eqb (get_or (zip new old) k (0, 0)).0 (get_or (zip new old) k (0, 0)).1))
    (λ k. not (eqb (get_or new k 0) (get_or old k 0))) (λ k l. rw (get_or-zip new old k (0, 0) (omega arith) (omega arith)))))
