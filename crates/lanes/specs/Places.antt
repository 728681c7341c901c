-- The places of the bits of a word, and what goes through them in turn.
use Rattle.std.specs.Prelude.{ℕ, zero, suc, ◌-◌, cond, List, [], ◌∷◌, ◌++◌}
use Rattle.std.specs.Int.Bits.{bit_and}
use Rattle.std.specs.Int.Count.{count_trailing_zeros}
use Rattle.relation.specs.Sets.{has}

-- the places below n at which m has a bit, rising
unfoldable pub places_below : ℕ → ℕ → List ℕ
places_below zero m = []
places_below (suc n) m = places_below n m ++ cond (has m n) (n ∷ []) []

-- the places of the bits of a word, rising
unfoldable pub places : ℕ → List ℕ
places m = places_below 64 m

-- the lowest of the places: how many of the 64 bits stand below the first that is 1; 64 where there is none
abbrev pub lowest_of : ℕ → ℕ
lowest_of m = count_trailing_zeros 64 m

-- the word less its lowest bit
abbrev pub without_lowest : ℕ → ℕ
without_lowest m = bit_and m (m - 1)

module _ {A : Type 0} (step : A → ℕ → A) where
  -- a taken through a list of places in turn
  unfoldable pub in_turn : A → List ℕ → A
  in_turn a [] = a
  in_turn a (k ∷ ks) = in_turn (step a k) ks

  -- a taken through the places of a word in turn, lowest first
  unfoldable pub visited : A → ℕ → A
  visited a m = in_turn a (places m)
