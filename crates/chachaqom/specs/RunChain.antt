-- Calls of `chachaqom_run` one after the other, as a host makes them that redraws in between.
use Rattle.std.specs.Prelude.{◌≡◌, List, [], ◌∷◌, ℕ, ◌+◌, length}
use Rattle.lists.specs.BigEndian.{number_at}
use Rattle.chachaqom.specs.RunExport.{RunExport}

-- the calls from an area on, by the rounds that each may make: each but the last answers 24, and the next one is given the area that its
-- answer names, with both areas as it left them; with the counts of all answers added up, and what the last call returns and leaves
pub data RunChain (n : ℕ) : ℕ → List ℕ → List ℕ → List ℕ → ℕ → ℕ → List ℕ → List ℕ → List ℕ → Type 0 where
  last : {area most counted number : ℕ} {first second answer first' second' answer' : List ℕ}
      → RunExport n area most first second answer first' second' answer' number → length answer ≡ 20 → counted ≡ number_at answer' 16
      → RunChain n area first second (most ∷ []) counted number first' second' answer'
  next : {area most others counted number : ℕ} {first second answer first₁ second₁ answer₁ first' second' answer' shares : List ℕ}
      → RunExport n area most first second answer first₁ second₁ answer₁ 24 → length answer ≡ 20
      → RunChain n (number_at answer₁ 4) first₁ second₁ shares others number first' second' answer' → counted ≡ number_at answer₁ 16 + others
      → RunChain n area first second (most ∷ shares) counted number first' second' answer'
