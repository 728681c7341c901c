-- The cells that preparing makes, what it comes to, and what it leaves in areas of exactly n² bytes.
use mathlib.Core.Path.{◌≡◌, refl, sym, ap, ◌∙◌}
use mathlib.Core.Bool.{Bool, cond}
use mathlib.Core.List.{List}
use Prim.Native.Nat.{ℕ, ◌*◌, ◌≤◌, ◌<◌}
use borrow.Author.Tests.{lt-ltb, le-ltb, eq-eqb, ne_eqb}
use lib.Dec.{eqb, ltb}
use lib.ListN.{length, get_or}
use Rattle.std.specs.Prelude.{Ok, Err, Some, None, position}
use Rattle.answer.specs.Ending.{accepted}
use Rattle.lists.proofs.LaidLaws.{laid_all}
use Rattle.region.specs.Lookup.{place}
use Rattle.relation.specs.Relations.{equal}
use Rattle.relation.specs.Sets.{only, intersect}
use Rattle.relation.specs.Converse.{converse}
use Rattle.matrix.specs.Square.{Square}
use Rattle.matrix.specs.Cells.{cell, row, column}
use Rattle.refinement.specs.declared.Contradiction.{Contradiction}
use Rattle.refinement.specs.declared.Contradiction.TheVariants.{Region, Pair, Triple}
use Rattle.refinement.specs.Node.{node_cell, node, empty_region}
use Rattle.refinement.specs.Arc.{arc_cell}
use Rattle.refinement.specs.Prepare.{Preparation, prepared}
use Rattle.refinement.specs.Refine.{started}
use Rattle.refinement.proofs.Stages.{node-cell, length-arc, arc-place}
use Rattle.refinement.proofs.Preparing.{preparation_region, preparation_pair, preparation_ready, ready_none_empty}
use Rattle.network.specs.declared.Unrefined.TheVariants.{Refused}
use Rattle.network.specs.Refined.{leaves}
use Rattle.network.specs.Prepared.{leaves_second}
use Rattle.network.specs.Inner.{Prepares, Clears, started_with, Readies}
use Rattle.network.proofs.Searches.{empty_in, none_in}
use Rattle.network.proofs.Endings.{zeros_laid}

-- ---- the cells by the two rules

pub node_on_diagonal : (n : ℕ) (m : List ℕ) (i j stated r : ℕ) → i ≡ j → stated ≡ cell n m i j → r ≡ intersect stated (only equal)
    → r ≡ node_cell n m i j
node_on_diagonal n m i j stated r e f g = rw (eq-eqb i j e) (g ∙ ap (λ (x : ℕ). intersect x (only equal)) f)

pub node_off_diagonal : (n : ℕ) (m : List ℕ) (i j stated : ℕ) → (i ≡ j → ⊥) → stated ≡ cell n m i j → stated ≡ node_cell n m i j
node_off_diagonal n m i j stated d f = rw (ne_eqb i j d) f

pub arc_of_nodes : (n : ℕ) (m : List ℕ) (i j own opposite turned r : ℕ) → i < n → j < n → own ≡ node_cell n m i j → opposite ≡ node_cell n m j i
    → turned ≡ converse opposite → r ≡ intersect own turned → r ≡ arc_cell n (node n m) i j
arc_of_nodes n m i j own opposite turned r hi hj e f g h =
    h ∙ rw (node-cell n m i j hi hj, node-cell n m j i hj hi, ← e, ← f, ← g)

-- the cell that preparing makes at a place
pub prepared_at : (n : ℕ) (m : List ℕ) (p x : ℕ) → p < n * n → x ≡ arc_cell n (node n m) (row n p) (column n p)
    → x ≡ get_or (prepared n m) p 0
prepared_at n m p x h e = e ∙ sym (arc-place n (node n m) p h)

-- the test whether the node rule leaves a region empty
pub node_test : (n : ℕ) (m : List ℕ) (i stated : ℕ) (test passed : Bool) → i < n → stated ≡ node_cell n m i i → test ≡ eqb stated 0
    → test ≡ passed → eqb (cell n (node n m) i i) 0 ≡ passed
node_test n m i stated test passed h e t p = rw (node-cell n m i i h h, ← e, ← t) p

-- ---- what preparing finds

module _ (n : ℕ) (cells first : List ℕ) where
  pub prepares_region : (i : ℕ) → i ≡ empty_region n (node n cells) → i < n → Prepares n cells first first (Err (Region (place i)))
  prepares_region i e h = record { found = sym (preparation_region n cells i e h); in_first = rw (← e, lt-ltb i n h) }

  module _ (none : n ≤ empty_region n (node n cells)) (area : List ℕ) (made : area ≡ prepared n cells) where
    written : area ≡ cond (ltb (empty_region n (node n cells)) n) first (prepared n cells)
    written = rw (le-ltb (empty_region n (node n cells)) n none) made

    pub prepares_pair : {p : ℕ} → Some p ≡ position (λ cell. eqb cell 0) area
        → Prepares n cells first area (Err (Pair (place (row n p)) (place (column n p))))
    prepares_pair {p} e =
        let at = empty_in n made (length-arc n (node n cells)) e in
        record { found = sym (preparation_pair n cells none p at.0 at.1); in_first = written }

    pub prepares_ready : None ≡ position (λ cell. eqb cell 0) area → Prepares n cells first area (Ok tt)
    prepares_ready e =
        record { found = sym (preparation_ready n cells none (none_in n made (length-arc n (node n cells)) e)); in_first = written }

-- ---- what follows

module _ {n : ℕ} {cells first second first' : List ℕ} {answer : Preparation} (prepares : Prepares n cells first first' answer)
    (square : Square n first) (other : Square n second) where
  starts : started_with n cells ≡ started answer (λ _. accepted (prepared n cells) 0)
  starts = ap (λ (a : Preparation). started a (λ _. accepted (prepared n cells) 0)) (sym prepares.found)

  pub readies_ready : answer ≡ Ok tt → Readies n (started_with n cells) first second first' second (Ok tt)
  unfolding leaves leaves_second
  readies_ready e =
      let none = ready_none_empty n cells (sym prepares.found ∙ e) in
      let made : first' ≡ prepared n cells = prepares.in_first ∙ rw (le-ltb (empty_region n (node n cells)) n none.regions) in
      rw (starts ∙ ap (λ (a : Preparation). started a (λ _. accepted (prepared n cells) 0)) e)
      (record {
        answer = refl;
        in_first = made ∙ sym (laid_all (n * n) (prepared n cells) first (length-arc n (node n cells)) square.size);
        in_second = refl;
      })

  module _ {first'' second'' : List ℕ} (size : length first' ≡ n * n) (cleared : Clears first' second first'' second'') where
    cleared_by : (contradiction : Contradiction)
        → Readies n (started (Err contradiction) (λ _. accepted (prepared n cells) 0)) first second first'' second'' (Err (Refused contradiction 0))
    unfolding leaves leaves_second
    cleared_by (Region i) = record { answer = refl; in_first = zeros_laid n first' first size square.size cleared.in_first; in_second = zeros_laid n second second other.size other.size cleared.in_second }
    cleared_by (Pair i j) = record { answer = refl; in_first = zeros_laid n first' first size square.size cleared.in_first; in_second = zeros_laid n second second other.size other.size cleared.in_second }
    cleared_by (Triple i k j) = record { answer = refl; in_first = zeros_laid n first' first size square.size cleared.in_first; in_second = zeros_laid n second second other.size other.size cleared.in_second }

    pub readies_refused : {contradiction : Contradiction} → answer ≡ Err contradiction
        → Readies n (started_with n cells) first second first'' second'' (Err (Refused contradiction 0))
    readies_refused {contradiction} e =
        rw (starts ∙ ap (λ (a : Preparation). started a (λ _. accepted (prepared n cells) 0)) e) (cleared_by contradiction)
