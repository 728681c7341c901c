-- The same regions in another order.
use Rattle.std.specs.Prelude.{◌≡◌, List, ℕ, ◌<◌}
use Rattle.answer.specs.Ending.{Ending, accepted, refused}
use Rattle.matrix.specs.Cells.{cell, grid}

-- a permutation of the places below n, with its inverse
pub record Renumbering (n : ℕ) : Type 0 where
  pub to : ℕ → ℕ
  pub from : ℕ → ℕ
  pub to_below : (i : ℕ) → i < n → to i < n
  pub from-below : (i : ℕ) → i < n → from i < n
  pub to-from : (i : ℕ) → i < n → to (from i) ≡ i
  pub from-to : (i : ℕ) → i < n → from (to i) ≡ i

-- region i of the renumbered matrix is region `to i` of the matrix
unfoldable pub renumbered : (n : ℕ) → Renumbering n → List ℕ → List ℕ
renumbered n π m = grid n (λ i j. cell n m (π.to i) (π.to j))

-- renumbering back
abbrev pub back : {n : ℕ} → Renumbering n → Renumbering n
back π = record {
  to = π.from;
  from = π.to;
  to_below = π.from-below;
  from-below = π.to_below;
  to-from = π.from-to;
  from-to = π.to-from;
}

-- the same ending but for the numbers of the regions: the same count, and the network renumbered or the same refusal number
abbrev pub Alike : (n : ℕ) → Renumbering n → Ending (List ℕ) → Ending (List ℕ) → Type 0
Alike n π (accepted w count) (accepted v rounds) = (v ≡ renumbered n π w) × (count ≡ rounds)
Alike n π (accepted w count) (refused numbers) = ⊥
Alike n π (refused numbers) (accepted v rounds) = ⊥
Alike n π (refused numbers) (refused others) = (numbers.number ≡ others.number) × (numbers.count ≡ others.count)
