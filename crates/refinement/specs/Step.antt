-- One step: what a round comes to.
use Rattle.std.specs.Prelude.{ℕ, ◌*◌, cond, List, leb, ltb}
use Rattle.region.specs.Lookup.{place}
use Rattle.matrix.specs.Cells.{row, column, first_empty, first_change}
use Rattle.refinement.specs.declared.Step.{Step}
use Rattle.refinement.specs.declared.Step.TheVariants.{Empty, Same, Changed}
use Rattle.refinement.specs.Round.{round, ran_out}

-- a new cell is empty: the first in row order, as i, k, j; else nothing changed, or something did
unfoldable pub step_of : ℕ → List ℕ → Step
step_of n old =
    let new : List ℕ = round n old in
    let p : ℕ = first_empty (n * n) new in
    let i : ℕ = row n p in
    let j : ℕ = column n p in
    let ran_empty : Step = Empty (place i) (place (ran_out n old i j)) (place j) in
    let filled : Step = cond (leb (n * n) (first_change (n * n) new old)) Same Changed in
    cond (ltb p (n * n)) ran_empty filled
