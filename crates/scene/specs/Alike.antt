-- How far two scenes agree for a refusal to be that of both.
use Rattle.std.specs.Prelude.{◌≡◌, List, ℕ, ◌+◌, ◌≤◌, ◌<◌, length, get_or}
use Rattle.scene.specs.Format.{length_of}

-- the first bytes of two scenes are the same
pub record SameFront (count : ℕ) (scene other : List ℕ) : Type 0 where
  pub there : count ≤ length other
  pub same : (k : ℕ) → k < count → get_or scene k 0 ≡ get_or other k 0

-- up to the record's full length; to the first byte left over for 11; and for 4 to the kind, where the record is cut short in the
-- other scene too
pub data RefusedAlike (scene other : List ℕ) : ℕ → ℕ → Type 0 where
  whole_alike : {number offset : ℕ} → (number ≡ 4 → ⊥) → (number ≡ 11 → ⊥) → SameFront (offset + length_of (get_or scene offset 0)) scene other
      → RefusedAlike scene other number offset
  rest_alike : {offset : ℕ} → SameFront (offset + 1) scene other → RefusedAlike scene other 11 offset
  cut_alike : {offset : ℕ} → offset < length scene → SameFront (offset + 1) scene other
      → length other < offset + length_of (get_or scene offset 0) → RefusedAlike scene other 4 offset
