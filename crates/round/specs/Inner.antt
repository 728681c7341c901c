-- What only inner functions' contracts cite: all lanes of a block at once, the words that a row is composed with, and what a round works on.
use Rattle.std.specs.Prelude.{◌≡◌, ℕ, ◌+◌, ◌*◌, ◌^◌, ◌<◌, ◌≤◌, true, cond, not, ◌&&◌, List, Result, eqb, length, get_or, take, drop}
use Rattle.std.specs.Int.Bits.{bit_xor}
use Rattle.relation.specs.Sets.{has, empty, universal, intersect, unite, union_of}
use Rattle.lanes.specs.Lists.{list_of}
use Rattle.lanes.specs.Words.{set_at, wired}
use Rattle.lanes.specs.Places.{visited}
use Rattle.round.specs.declared.rounds.Emptied.{Emptied}
use Rattle.planes.specs.Planes.{block_of}
use Rattle.round.specs.Onward.{onward_of}
use Rattle.round.specs.Calls.{came_of, round_leaves}

-- ---- all lanes of a block
-- the union of the eight words f 0, .., f 7
abbrev joined : (ℕ → ℕ) → ℕ
joined f = unite (unite (unite (unite (unite (unite (unite (f 0) (f 1)) (f 2)) (f 3)) (f 4)) (f 5)) (f 6)) (f 7)

-- the lanes whose set has a member
abbrev pub lanes_with_member : List ℕ → ℕ
lanes_with_member w = joined (λ r. get_or w r 0)

-- the lanes whose set is the universal one
abbrev pub lanes_with_all : List ℕ → ℕ
lanes_with_all w =
    intersect (get_or w 7 0) (intersect (get_or w 6 0) (intersect (get_or w 5 0) (intersect (get_or w 4 0)
    (intersect (get_or w 3 0) (intersect (get_or w 2 0) (intersect (get_or w 1 0) (get_or w 0 0)))))))

-- the lanes whose sets differ
abbrev pub lanes_that_differ : List ℕ → List ℕ → ℕ
lanes_that_differ a b = joined (λ r. bit_xor (get_or a r 0) (get_or b r 0))

-- the set of lane k in every lane
unfoldable pub spread : List ℕ → ℕ → List ℕ
spread words k = list_of 8 (λ r. cond (has (get_or words r 0) k) 18446744073709551615 empty)

-- each word of all, less what no p brings: word 8 * p + r of onward is what relation p of a gives of relation r
unfoldable pub narrowed : List ℕ → List ℕ → List ℕ → List ℕ
narrowed all a onward =
    list_of 8 (λ r. intersect (get_or all r 0) (union_of 8 (λ p. intersect (get_or a p 0) (get_or onward (8 * p + r) 0))))

-- ---- what each relation gives with the sets of a row

-- of 64 words those from 8 * p on, for each relation p below n, are p composed with the sets of b
pub record Wired (b onward : List ℕ) (n : ℕ) : Type 0 where
  pub long : length onward ≡ 64
  pub word : (p r : ℕ) → p < n → r < 8 → get_or onward (8 * p + r) 0 ≡ get_or (wired p b) r 0

-- each live region has its row among so many words of planes, and room among so many words onward
pub record Room (live planes onward : ℕ) : Type 0 where
  pub row : (k : ℕ) → has live k ≡ true → 8 * k + 8 ≤ planes
  pub space : (k : ℕ) → has live k ≡ true → 64 * k + 64 ≤ onward

-- the words of region k
abbrev pub part_of : List ℕ → ℕ → List ℕ
part_of onward k = take 64 (drop (64 * k) onward)

-- a block through the regions ks
unfoldable pub block_through : List ℕ → ℕ → List ℕ → List ℕ
block_through w ks onward = visited (λ all k. narrowed all (spread w k) (part_of onward k)) w ks

-- the live regions, other than row b itself, at which the row w has another set than the universal one
pub record Chosen (live : ℕ) (w : List ℕ) (b ks : ℕ) : Type 0 where
  pub bit : (k : ℕ) → k < 64 → has ks k ≡ has live k && (not (eqb b k) && not (eqb (set_at w k) universal))
  pub few : ks < 2 ^ 64

-- ---- the blocks of a round

-- what a round works on: n regions, their planes, live regions below n, and room for what the live rows give
pub record Ready (n live old new onward : ℕ) : Type 0 where
  pub few : n ≤ 64
  pub whole : old ≡ 8 * n
  pub made : new ≡ 8 * n
  pub low : (k : ℕ) → has live k ≡ true → k < n
  pub space : 64 * n ≤ onward

-- the words of each live region are what the relations give with its row
pub record Wiring (live : ℕ) (old onward : List ℕ) : Type 0 where
  pub wired : (k : ℕ) → has live k ≡ true → Wired (block_of old k) (part_of onward k) 8

-- the blocks of a round are made, and what it came to
pub record Blocks (n live : ℕ) (old new new' : List ℕ) (answer : Result ℕ Emptied) : Type 0 where
  pub came : answer ≡ came_of n live old
  pub in_new : new' ≡ round_leaves n live old new

-- the round is made, and the words of the live regions
pub record Made (n live : ℕ) (old new onward new' onward' : List ℕ) (answer : Result ℕ Emptied) : Type 0 where
  pub blocks : Blocks n live old new new' answer
  pub in_onward : onward' ≡ onward_of live old onward
