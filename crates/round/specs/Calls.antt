-- What a round promises of its answer and of every lent area.
use Rattle.std.specs.Prelude.{◌≡◌, ℕ, ◌+◌, ◌*◌, ◌/◌, ◌-◌, ◌^◌, Bool, cond, ◌&&◌, List, Result, Ok, Err, leb, ltb, length}
use Rattle.relation.specs.Sets.{intersect}
use Rattle.matrix.specs.Cells.{row, column}
use Rattle.lists.specs.Laid.{laid}
use Rattle.planes.specs.Planes.{sets_of, stride_of}
use Rattle.planes.specs.Calls.{ranges, holds}
use Rattle.round.specs.declared.rounds.Emptied.{Emptied}
use Rattle.round.specs.Round.{empty_lane, round_planes, changed_columns}
use Rattle.round.specs.Onward.{onward_of}

-- n is in range, the words are planes of n regions, and there is room for what 64 words say of each region
abbrev pub serves_round : ℕ → ℕ → ℕ → ℕ → Bool
serves_round n old new onward = ranges n && (holds n old && (holds n new && leb (64 * n) onward))

-- the regions of a mask that are below n
abbrev pub below : ℕ → ℕ → ℕ
below n live = intersect live (18446744073709551615 / 2 ^ (64 - n))

-- what a round came to: where the first empty set is in row order, else the columns that changed
unfoldable pub came_of : ℕ → ℕ → List ℕ → Result ℕ Emptied
came_of n live old =
    let new : List ℕ = sets_of (round_planes n live old) in
    let p : ℕ = empty_lane new in
    cond (ltb p (length new)) (Err (record { row = row (stride_of n) p; column = column (stride_of n) p }))
    (Ok (changed_columns (stride_of n) new (sets_of old)))

-- what the planes hold after a round: its blocks up to the one with the first empty set, all of them where no set is empty
unfoldable pub round_leaves : ℕ → ℕ → List ℕ → List ℕ → List ℕ
round_leaves n live old new =
    let made : List ℕ = round_planes n live old in laid (8 * (empty_lane (sets_of made) / 64 + 1)) made new

-- a round's answer and what it leaves in both areas that it writes; where n or a length does not serve, no area is touched
pub record Rounds (n live : ℕ) (old new onward new' onward' : List ℕ) (answer : Result ℕ Emptied) : Type 0 where
  pub came : answer ≡ cond (serves_round n (length old) (length new) (length onward)) (came_of n live old)
      (Err (record { row = 0; column = 0 }))
  pub in_new : new' ≡ cond (serves_round n (length old) (length new) (length onward)) (round_leaves n live old new) new
  pub in_onward : onward' ≡ cond (serves_round n (length old) (length new) (length onward)) (onward_of (below n live) old onward) onward
