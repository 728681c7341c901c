-- Rounds a few at a time: preparation as a call of its own, a run from a matrix in a lent area, and runs one after the other.
use Rattle.std.specs.Prelude.{ℕ, zero, suc, ◌+◌, ◌*◌, ◌≤◌, Bool, false, not, ◌&&◌, ◌||◌, List, [], ◌∷◌, eqb, leb}
use Rattle.answer.specs.Answer.{answer}
use Rattle.answer.specs.Ending.{Ending, accepted, refused, stop}
use Rattle.lists.specs.Least.{least}
use Rattle.relation.specs.Relations.{equal}
use Rattle.relation.specs.Sets.{only, empty}
use Rattle.relation.specs.Converse.{converse}
use Rattle.matrix.specs.Square.{in_range}
use Rattle.matrix.specs.Cells.{cell, row, column}
use Rattle.refinement.specs.Round.{round}
use Rattle.refinement.specs.Prepare.{prepared, preparation}
use Rattle.refinement.specs.Refine.{rounds, started, limited}

-- ---- preparation

-- accepted, with the matrix that the rounds start from; with the cells and how long each area is
unfoldable pub readied : ℕ → List ℕ → ℕ → ℕ → Ending (List ℕ)
readied n m first second = limited n m first second (λ _. started (preparation n m) (λ _. accepted (prepared n m) 0))

-- ---- what a run asks of the matrix

-- cell (i, j) is not empty, the converse of its opposite, and only "equal" on the diagonal
abbrev pub is_plain_cell : ℕ → List ℕ → ℕ → ℕ → Bool
is_plain_cell n m i j =
    not (eqb (cell n m i j) empty)
    && (eqb (cell n m i j) (converse (cell n m j i)) && (not (eqb i j) || eqb (cell n m i j) (only equal)))

-- the first cell in row order that is not; n² if there is none
unfoldable pub first_unplain : ℕ → List ℕ → ℕ
first_unplain n m = least (n * n) (λ p. not (is_plain_cell n m (row n p) (column n p)))

-- every cell is
unfoldable pub is_plain : ℕ → List ℕ → Bool
is_plain n m = leb (n * n) (first_unplain n m)

-- ---- a run

-- up to `more` rounds from the matrix, with how long each area is: n outside 1 to 64 is 1, a shorter area is 2, a matrix that no round
-- can start from is 25; where the rounds are used up the ending is 24
unfoldable pub ran : ℕ → ℕ → List ℕ → ℕ → ℕ → Ending (List ℕ)
ran n more m first second =
    stop (not (in_range n)) (refused (answer 1 0 0 0 0))
    (λ _. stop (not (leb (n * n) first && leb (n * n) second)) (refused (answer 2 0 0 0 0))
    (λ _. stop (not (is_plain n m)) (refused (answer 25 0 0 0 0)) (λ _. rounds more n 0 m)))

-- the matrix after so many rounds
unfoldable pub after_rounds : ℕ → ℕ → List ℕ → List ℕ
after_rounds zero n m = m
after_rounds (suc count) n m = after_rounds count n (round n m)

-- ---- runs one after the other

-- the rounds of a run are used up
abbrev pub is_used_up : {X : Type 0} → Ending X → Bool
is_used_up (accepted given count) = false
is_used_up (refused numbers) = eqb numbers.number 24

-- an ending with the rounds of the runs before it added to its count
abbrev pub later : {X : Type 0} → ℕ → Ending X → Ending X
later before (accepted given count) = accepted given (before + count)
later before (refused numbers) =
    refused (answer numbers.number numbers.first numbers.second numbers.third (before + numbers.count))

-- the first run that does not use its rounds up ends them all, with the counts added up
unfoldable pub runs : List ℕ → ℕ → List ℕ → Ending (List ℕ)
runs [] n m = refused (answer 24 0 0 0 0)
runs (more ∷ others) n m =
    let one : Ending (List ℕ) = rounds more n 0 m in
    stop (not (is_used_up one)) one (λ _. later more (runs others n (after_rounds more n m)))

-- all the rounds that the runs may make
unfoldable pub total : List ℕ → ℕ
total [] = 0
total (more ∷ others) = more + total others

-- each run may make at least one
abbrev pub EachSome : List ℕ → Type 0
EachSome [] = Unit
EachSome (more ∷ others) = (1 ≤ more) × EachSome others
