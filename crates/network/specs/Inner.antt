-- What functions inside the crate promise one another; no public contract cites it.
use Rattle.std.specs.Prelude.{◌≡◌, true, not, ◌&&◌, cond, List, ℕ, zero, suc, ◌*◌, ◌≤◌, ◌<◌, leb, ltb, length, replicate, Result, Ok, Err}
use Rattle.answer.specs.Answer.{answer}
use Rattle.answer.specs.Ending.{Ending, accepted, refused, answered, stop}
use Rattle.refinement.specs.declared.Contradiction.TheVariants.{Triple}
use Rattle.refinement.specs.Node.{node, empty_region}
use Rattle.refinement.specs.Prepare.{Preparation, prepared, preparation}
use Rattle.refinement.specs.Round.{ran_out}
use Rattle.refinement.specs.Refine.{started, rounds}
use Rattle.refinement.specs.Run.{is_plain, after_rounds}
use Rattle.matrix.specs.Square.{in_range, Square}
use Rattle.planes.specs.Planes.{planes_matrix}
use Rattle.region.specs.Lookup.{place}
use Rattle.network.specs.declared.Area.{Area}
use Rattle.network.specs.declared.Area.TheVariants.{First, Second}
use Rattle.network.specs.declared.Unrefined.{Unrefined}
use Rattle.network.specs.declared.Unrefined.TheVariants.{Refused, Unfinished, OutOfRange, WrongLength}
use Rattle.network.specs.declared.turning.Ended.{Ended}
use Rattle.network.specs.declared.turning.Ended.TheVariants.{Empty, Same, UsedUp}
use Rattle.network.specs.Verdict.{Verdict, Start, acceptance}
use Rattle.network.specs.Areas.{other, chosen, holds}
use Rattle.network.specs.Numbers.{answer_of, answer_of_start}
use Rattle.network.specs.Refined.{leaves}
use Rattle.network.specs.Prepared.{leaves_second}
use Rattle.network.specs.Ran.{answered_from, NamesFrom, left_by}

-- how many cells n regions have, if n is in range and both areas have so many; with how long each area is
abbrev pub size_within : ℕ → ℕ → ℕ → Result ℕ Unrefined
size_within n first second =
    cond (in_range n) (cond (leb (n * n) first && leb (n * n) second) (Ok (n * n)) (Err WrongLength)) (Err OutOfRange)

-- preparing: what it came to; the first area is written once the node rule leaves no region empty
pub record Prepares (n : ℕ) (cells first first' : List ℕ) (answer : Preparation) : Type 0 where
  pub found : answer ≡ preparation n cells
  pub in_first : first' ≡ cond (ltb (empty_region n (node n cells)) n) first (prepared n cells)

-- both areas are cleared
pub record Clears (first second first' second' : List ℕ) : Type 0 where
  pub in_first : first' ≡ replicate (length first) 0
  pub in_second : second' ≡ replicate (length second) 0

-- what preparation comes to within its limits
abbrev pub started_with : ℕ → List ℕ → Ending (List ℕ)
started_with n cells = started (preparation n cells) (λ _. accepted (prepared n cells) 0)

-- its answer and both areas are what an ending leaves
pub record Readies (n : ℕ) (ending : Ending (List ℕ)) (first second first' second' : List ℕ) (start : Start) : Type 0 where
  pub answer : answer_of_start start ≡ answered ending
  pub in_first : first' ≡ leaves n ending first
  pub in_second : second' ≡ leaves_second n ending second

-- what a run comes to within its limits
abbrev pub rounds_or : ℕ → ℕ → List ℕ → Ending (List ℕ)
rounds_or n most m = stop (not (is_plain n m)) (refused (answer 25 0 0 0 0)) (λ _. rounds most n 0 m)

-- its verdict and both areas, each of n² bytes, are what an ending leaves
pub record Meets (n : ℕ) (from : Area) (ending : Ending (List ℕ)) (first second first' second' : List ℕ) (verdict : Verdict) : Type 0 where
  pub answer : answer_of verdict ≡ answered_from from ending
  pub names : NamesFrom n from verdict
  pub in_first : first' ≡ left_by n from (chosen from first second) ending First first
  pub in_second : second' ≡ left_by n from (chosen from first second) ending Second second

-- ---- rounds in planes

-- room for the planes of n regions, for those that they were made from, and for what their rows give
pub record Room (n old new onward : ℕ) : Type 0 where
  pub for_old : old ≡ 8 * n
  pub for_new : new ≡ 8 * n
  pub for_rows : 64 * n ≤ onward

-- rounds can start from the matrix
pub record Startable (n : ℕ) (m : List ℕ) : Type 0 where
  pub square : Square n m
  pub plain : is_plain n m ≡ true

-- the planes that the last round was made from; where none was made, any
abbrev pub HeldBefore : ℕ → ℕ → List ℕ → List ℕ → Type 0
HeldBefore n zero m old = Unit
HeldBefore n (suc count) m old = planes_matrix n old ≡ after_rounds count n m

-- a round left a set empty
pub record EndsEmpty (n most : ℕ) (m old : List ℕ) (row column round : ℕ) : Type 0 where
  pub row_lt : row < n
  pub column_lt : column < n
  pub runs_out : ran_out n (planes_matrix n old) row column < n
  pub ending : rounds most n 0 m ≡ refused (answer 23 row (ran_out n (planes_matrix n old) row column) column round)

-- the rounds are used up
pub record EndsUsedUp (n most : ℕ) (m old new : List ℕ) (count : ℕ) : Type 0 where
  pub ending : rounds most n 0 m ≡ refused (answer 24 0 0 0 count)
  pub last : planes_matrix n new ≡ after_rounds count n m
  pub before : HeldBefore n count m old

-- how up to `most` rounds from the matrix m ended, with the planes that the last was made from and those that it made
unfoldable pub Ends : ℕ → ℕ → List ℕ → List ℕ → List ℕ → Ended → Type 0
Ends n most m old new (Empty row column round) = EndsEmpty n most m old row column round
Ends n most m old new (Same count) = rounds most n 0 m ≡ accepted (planes_matrix n old) count
Ends n most m old new (UsedUp count) = EndsUsedUp n most m old new count

-- a set that ran empty has its place in the matrix, and so has the region on the way to it
unfoldable pub Placed : ℕ → List ℕ → Ended → Type 0
Placed n old (Empty row column round) = (row < n) × (column < n) × (ran_out n (planes_matrix n old) row column < n)
Placed n old (Same count) = Unit
Placed n old (UsedUp count) = Unit

-- both areas are cleared and the triple is told
pub record Refuses (n row column round : ℕ) (old first second first' second' : List ℕ) (verdict : Verdict) : Type 0 where
  pub told : verdict ≡ Err (Refused (Triple (place row) (place (ran_out n (planes_matrix n old) row column)) (place column)) round)
  pub cleared : Clears first second first' second'

-- both areas hold the network
pub record Rests (n : ℕ) (area : Area) (count : ℕ) (old first' second' : List ℕ) (verdict : Verdict) : Type 0 where
  pub told : verdict ≡ acceptance n count (holds (other area) count)
  pub in_first : first' ≡ planes_matrix n old
  pub in_second : second' ≡ planes_matrix n old

-- the area named holds the last matrix and the other one the matrix before it
pub record Shares (n : ℕ) (area : Area) (old new first' second' : List ℕ) : Type 0 where
  pub in_first : first' ≡ chosen area (planes_matrix n new) (planes_matrix n old)
  pub in_second : second' ≡ chosen area (planes_matrix n old) (planes_matrix n new)

-- so they do where the rounds are used up, unless none was made
pub record Stops (n : ℕ) (area : Area) (count : ℕ) (old new first second first' second' : List ℕ) (verdict : Verdict) : Type 0 where
  pub told : verdict ≡ Err (Unfinished count (holds area count))
  pub none : count ≡ 0 → (first' ≡ first) × (second' ≡ second)
  pub some : 0 < count → Shares n (holds area count) old new first' second'

-- the verdict on rounds that ended so, and what they leave in both areas
unfoldable pub Leaves : ℕ → Area → Ended → List ℕ → List ℕ → List ℕ → List ℕ → List ℕ → List ℕ → Verdict → Type 0
Leaves n area (Empty row column round) old new first second first' second' verdict =
    Refuses n row column round old first second first' second' verdict
Leaves n area (Same count) old new first second first' second' verdict = Rests n area count old first' second' verdict
Leaves n area (UsedUp count) old new first second first' second' verdict = Stops n area count old new first second first' second' verdict
