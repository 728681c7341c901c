-- What only inner functions' contracts and laws cite.
use Rattle.std.specs.Prelude.{◌≡◌, ℕ, ◌*◌, ◌≤◌, List}
use Rattle.relation.specs.Sets.{has}
use Rattle.lanes.specs.Lists.{list_of, mask_of}

-- eight words whose lane x has the set f x
unfoldable pub lanes_of : (ℕ → ℕ) → List ℕ
lanes_of f = list_of 8 (λ r. mask_of 64 (λ x. has (f x) r))

-- n regions, from 1 to 64, their cells and the words of their planes
pub record Square (n cells planes : ℕ) : Type 0 where
  pub some : 1 ≤ n
  pub few : n ≤ 64
  pub size : cells ≡ n * n
  pub whole : planes ≡ 8 * n
