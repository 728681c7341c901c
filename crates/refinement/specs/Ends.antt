-- What is right of an ending: an accepted network is the largest there is, a refusal means that there is none and names regions as
-- the document says, and neither counts more rounds than it allows.
use Rattle.std.specs.Prelude.{◌≡◌, List, ℕ, suc, ◌≤◌, ◌<◌}
use Rattle.answer.specs.Answer.{Answer}
use Rattle.answer.specs.Ending.{Ending, accepted, refused}
use Rattle.refinement.specs.Refine.{most_rounds}
use Rattle.refinement.specs.Network.{Network, Largest}

-- three regions that differ
pub record Three (n i k j : ℕ) : Type 0 where
  pub first : i < n
  pub middle : k < n
  pub last : j < n
  pub ends_differ : i ≡ j → ⊥
  pub first_differs : k ≡ i → ⊥
  pub last_differs : k ≡ j → ⊥

-- 21 names a region
pub record AtRegion (n : ℕ) (numbers : Answer) : Type 0 where
  pub number : numbers.number ≡ 21
  pub inside : numbers.first < n
  pub second : numbers.second ≡ 0
  pub third : numbers.third ≡ 0
  pub counted : numbers.count ≡ 0

-- 22 names a pair, in this order
pub record AtPair (n : ℕ) (numbers : Answer) : Type 0 where
  pub number : numbers.number ≡ 22
  pub order : numbers.first < numbers.second
  pub inside : numbers.second < n
  pub third : numbers.third ≡ 0
  pub counted : numbers.count ≡ 0

-- 23 names three regions that differ
pub record AlongTriple (n : ℕ) (numbers : Answer) : Type 0 where
  pub number : numbers.number ≡ 23
  pub three : Three n numbers.first numbers.second numbers.third
  pub few : numbers.count ≤ suc (most_rounds n)

-- the regions that a refusal names
pub data NamesRegions (n : ℕ) (numbers : Answer) : Type 0 where
  a_region : AtRegion n numbers → NamesRegions n numbers
  a_pair : AtPair n numbers → NamesRegions n numbers
  a_triple : AlongTriple n numbers → NamesRegions n numbers

pub record EndsAccepted (n : ℕ) (m w : List ℕ) (count : ℕ) : Type 0 where
  pub largest : Largest n m w
  pub few : count ≤ most_rounds n

pub record EndsRefused (n : ℕ) (m : List ℕ) (numbers : Answer) : Type 0 where
  pub none : (w : List ℕ) → Network n m w → ⊥
  pub names : NamesRegions n numbers

abbrev pub Ends : ℕ → List ℕ → Ending (List ℕ) → Type 0
Ends n m (accepted w count) = EndsAccepted n m w count
Ends n m (refused numbers) = EndsRefused n m numbers
