-- Preparation: the node rule, then the arc rule.
use Rattle.std.specs.Prelude.{ℕ, ◌*◌, cond, List, ltb, Result, Ok, Err}
use Rattle.region.specs.Lookup.{place}
use Rattle.matrix.specs.Cells.{row, column, first_empty}
use Rattle.refinement.specs.declared.Contradiction.{Contradiction}
use Rattle.refinement.specs.declared.Contradiction.TheVariants.{Region, Pair}
use Rattle.refinement.specs.Node.{node, empty_region}
use Rattle.refinement.specs.Arc.{arc}

-- the matrix that both rules make
abbrev pub prepared : ℕ → List ℕ → List ℕ
prepared n m = arc n (node n m)

-- what the rules come to: a matrix from which rounds can start, or where they leave no relation
abbrev pub Preparation : Type 0
Preparation = Result Unit Contradiction

-- it is refused at the least region that the node rule leaves empty, or at the first cell in row order that the arc rule does
unfoldable pub preparation : ℕ → List ℕ → Preparation
preparation n m =
    let i : ℕ = empty_region n (node n m) in
    let p : ℕ = first_empty (n * n) (prepared n m) in
    let pair : Preparation = Err (Pair (place (row n p)) (place (column n p))) in
    let later : Preparation = cond (ltb p (n * n)) pair (Ok tt) in
    cond (ltb i n) (Err (Region (place i))) later
