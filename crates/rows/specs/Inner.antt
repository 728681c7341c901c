-- What only inner functions' contracts cite.
use Rattle.std.specs.Prelude.{◌≡◌, ℕ, ◌+◌, ◌*◌, ◌/◌, ◌%◌, ◌^◌, ◌<◌, List, get_or}
use Rattle.relation.specs.Sets.{has}
use Rattle.lanes.specs.Lists.{list_of, mask_of}

-- a word is another one's square of bits turned about its diagonal: bit 8 r + g is bit 8 g + r
pub record Flipped (x r : ℕ) : Type 0 where
  pub bit : (i : ℕ) → i < 64 → has r i ≡ has x (8 * (i % 8) + i / 8)

-- eight bytes as a square of bits, turned about its diagonal: bit g of byte r is bit r of byte g
unfoldable pub turned_of : List ℕ → List ℕ
turned_of b = list_of 8 (λ r. mask_of 8 (λ g. has (get_or b g 0) r))

-- eight lanes from `at` on: byte r has what word r has of them
unfoldable pub eight_from : ℕ → List ℕ → List ℕ
eight_from at words = list_of 8 (λ r. get_or words r 0 / 2 ^ at % 256)
