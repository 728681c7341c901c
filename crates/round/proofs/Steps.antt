-- What the calls about planes make of a matrix of n regions: its planes, the matrix back, and a round as a step of the refinement.
use mathlib.Core.Path.{◌≡◌, sym, ap, ap₂, ◌∙◌, subst}
use mathlib.Core.Bool.{Bool, true, cond}
use mathlib.Core.List.{List}
use Prim.Native.Nat.{ℕ, ◌+◌, ◌*◌, ◌<◌, ◌≤◌}
use borrow.Author.Tests.{le-leb, eq-eqb}
use lib.ListN.{length}
use Rattle.region.specs.Lookup.{place}
use Rattle.relation.specs.Sets.{has}
use Rattle.matrix.specs.Square.{Square}
use Rattle.matrix.proofs.CellLaws.{place_lt, place_div, place-mod}
use Rattle.refinement.specs.declared.Step.TheVariants.{Empty, Same, Changed}
use Rattle.refinement.specs.Round.{round, ran_out}
use Rattle.refinement.specs.Step.{step_of}
use Rattle.refinement.proofs.Stepping.{step_empty, step_same, step_changed}
use Rattle.std.proofs.Common.{Result, Ok, Err}
use Rattle.round.specs.declared.rounds.Emptied.{Emptied}
use Rattle.planes.specs.Planes.{matrix_planes, planes_matrix, lane_cell}
use Rattle.planes.specs.Calls.{serves_cells, taken, given}
use Rattle.round.specs.Calls.{serves_round, came_of, round_leaves, Rounds}
use Rattle.planes.proofs.Blocks.{length_planes}
use Rattle.round.proofs.Live.{LiveRounds}
use Rattle.round.proofs.SameRound.{FirstEmpty, Says, same-round}

module _ {n : ℕ} {m : List ℕ} (square : Square n m) where
  serves_cells_lem : (words : ℕ) → words ≡ 8 * n → serves_cells n (length m) words ≡ true
  serves_cells_lem words e =
      rw (le-leb 1 n square.some, le-leb n 64 square.few, eq-eqb (length m) (n * n) square.size, eq-eqb words (8 * n) e)

  -- the cells into planes, and planes into cells
  pub takes : (planes : List ℕ) → length planes ≡ 8 * n → taken n m planes ≡ matrix_planes n m
  unfolding taken
  takes planes e = ap (λ (b : Bool). cond b (matrix_planes n m) planes) (serves_cells_lem (length planes) e)

  pub gives : (planes : List ℕ) → length planes ≡ 8 * n → given n planes m ≡ planes_matrix n planes
  unfolding given
  gives planes e = ap (λ (b : Bool). cond b (planes_matrix n planes) m) (serves_cells_lem (length planes) e)

  serves_round_lem : (old new onward : ℕ) → old ≡ 8 * n → new ≡ 8 * n → 64 * n ≤ onward → serves_round n old new onward ≡ true
  serves_round_lem old new onward e f h =
      rw (le-leb 1 n square.some, le-leb n 64 square.few, eq-eqb old (8 * n) e, eq-eqb new (8 * n) f, le-leb (64 * n) onward h)

-- a round from the planes of m: what it came to is the step from m, and where no set is empty the planes made are those of the round,
-- with the regions that are live next
pub record EmptyStep (n : ℕ) (m : List ℕ) (at : Emptied) : Type 0 where
  pub row_lt : at.row < n
  pub column_lt : at.column < n
  pub empty : step_of n m ≡ Empty (place at.row) (place (ran_out n m at.row at.column)) (place at.column)

pub record FullStep (n : ℕ) (m new : List ℕ) (columns : ℕ) : Type 0 where
  pub same : columns ≡ 0 → step_of n m ≡ Same
  pub changed : (columns ≡ 0 → ⊥) → step_of n m ≡ Changed
  pub made : new ≡ matrix_planes n (round n m)
  pub next : LiveRounds n (round n m) (has columns)

abbrev pub PlanesStep : ℕ → List ℕ → List ℕ → Result ℕ Emptied → Type 0
PlanesStep n m new (Ok columns) = FullStep n m new columns
PlanesStep n m new (Err at) = EmptyStep n m at

module _ (n : ℕ) (m : List ℕ) (live : ℕ) where
  empty_step : (at : Emptied) → FirstEmpty n (round n m) at → EmptyStep n m at
  empty_step at F =
      let cell = place_lt n at.row at.column F.row_lt F.column_lt in
      record {
        row_lt = F.row_lt;
        column_lt = F.column_lt;
        empty = step_empty n m (at.row * n + at.column) F.first-empty cell
            ∙ ap₂ (λ (a b : ℕ). Empty (place a) (place (ran_out n m a b)) (place b)) (place_div n at.row at.column F.column_lt)
            (place-mod n at.row at.column F.column_lt);
      }

  steps : (new : List ℕ) → length new ≡ 8 * n → (came : Result ℕ Emptied) → Says n live m came
      → PlanesStep n m (round_leaves n live (matrix_planes n m) new) came
  steps new l (Ok columns) N = record {
    same = λ e. step_same n m N.none-empty (N.unchanged e);
    changed = λ e. step_changed n m N.none-empty (N.changed e);
    made = N.left new l;
    next = N.next;
  }
  steps new l (Err at) F = empty_step at F

  pub came_steps : n ≤ 64 → LiveRounds n m (has live) → (new : List ℕ) → length new ≡ 8 * n
      → PlanesStep n m (round_leaves n live (matrix_planes n m) new) (came_of n live (matrix_planes n m))
  came_steps few L new l = steps new l (came_of n live (matrix_planes n m)) (same-round n m live few L).says

pub round_steps : {n live : ℕ} {m old new onward new' onward' : List ℕ} {came : Result ℕ Emptied} → Square n m → LiveRounds n m (has live)
    → old ≡ matrix_planes n m → length new ≡ 8 * n → 64 * n ≤ length onward → Rounds n live old new onward new' onward' came
    → PlanesStep n m new' came
round_steps {n} {live} {m} {old} {new} {onward} {new'} {onward'} {came} square L e l room R =
    let long : length old ≡ 8 * n = ap length e ∙ length_planes n (lane_cell 64 n m) in
    let served = serves_round_lem square (length old) (length new) (length onward) long l room in
    let found : came ≡ came_of n live (matrix_planes n m) =
    R.came ∙ ap (λ (b : Bool). cond b (came_of n live old) (Err (record { row = 0; column = 0 }))) served ∙ ap (came_of n live) e in
    let made : new' ≡ round_leaves n live (matrix_planes n m) new =
    R.in_new ∙ ap (λ (b : Bool). cond b (round_leaves n live old new) new) served ∙ ap (λ (o : List ℕ). round_leaves n live o new) e in
    subst (PlanesStep n m new') (sym found)
    (subst (λ (w : List ℕ). PlanesStep n m w (came_of n live (matrix_planes n m))) (sym made) (came_steps n m live square.few L new l))
