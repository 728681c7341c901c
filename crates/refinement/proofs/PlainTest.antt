-- The test whether a round can start from a matrix: what it says of the cells, and that it passes what every round starts from.
use mathlib.Core.Path.{◌≡◌, refl, sym, ◌∙◌, subst}
use mathlib.Core.Bool.{Bool, true, not, true≢false}
use mathlib.Core.List.{List}
use Prim.Native.Nat.{ℕ, ◌+◌, ◌*◌, ◌≤◌, ◌<◌}
use native.Mathlib.Omega.{arith}
use borrow.Author.Tests.{eqb-true, eqb-false, eq-eqb, ne_eqb, leb-true, le-leb, not-true, not-false}
use lib.Dec.{eqb}
use Rattle.lists.specs.Least.{least}
use Rattle.lists.proofs.Splits.{split_lt, split_eq, by_test}
use Rattle.lists.proofs.LeastLaws.{least-is}
use Rattle.relation.specs.Relations.{equal}
use Rattle.relation.specs.Sets.{only, empty}
use Rattle.relation.specs.Converse.{converse}
use Rattle.relation.proofs.ConverseLaws.{converse-byte}
use Rattle.matrix.specs.Cells.{cell, row, column}
use Rattle.matrix.proofs.CellLaws.{place_lt, place_div, place-mod, row_lt, column_lt}
use Rattle.refinement.specs.Plain.{Plain}
use Rattle.refinement.specs.Run.{is_plain_cell, first_unplain, is_plain}

-- what the test says of a cell
pub record PlainCell (n : ℕ) (m : List ℕ) (i j : ℕ) : Type 0 where
  pub full : cell n m i j ≡ empty → ⊥
  pub opposite : cell n m i j ≡ converse (cell n m j i)
  pub diagonal : i ≡ j → cell n m i j ≡ only equal

module _ (n : ℕ) (m : List ℕ) (i j : ℕ) where
  pub plain_cell : is_plain_cell n m i j ≡ true → PlainCell n m i j
  plain_cell e =
      by_test (eqb (cell n m i j) empty)
      (λ f. absurd (true≢false (sym e ∙ rw f)))
      (λ f. by_test (eqb (cell n m i j) (converse (cell n m j i)))
      (λ g. record {
        full = eqb-false (cell n m i j) empty f;
        opposite = eqb-true (cell n m i j) (converse (cell n m j i)) g;
        diagonal = λ d. eqb-true (cell n m i j) (only equal) (sym (rw (f, g, eq-eqb i j d)) ∙ e);
      })
      (λ g. absurd (true≢false (sym e ∙ rw (f, g)))))

  pub passes_cell : PlainCell n m i j → is_plain_cell n m i j ≡ true
  passes_cell P =
      split_eq i j
      (λ d. rw (
        ne_eqb (cell n m i j) empty P.full,
        eq-eqb (cell n m i j) (converse (cell n m j i)) P.opposite,
        eq-eqb i j d,
        eq-eqb (cell n m i j) (only equal) (P.diagonal d),
      ))
      (λ d. rw (
        ne_eqb (cell n m i j) empty P.full,
        eq-eqb (cell n m i j) (converse (cell n m j i)) P.opposite,
        ne_eqb i j d,
      ))

-- a matrix that passes is one that a round can start from
pub plain_tested : (n : ℕ) (m : List ℕ) → is_plain n m ≡ true → Plain n m
unfolding is_plain first_unplain
plain_tested n m e =
    let test : ℕ → Bool = λ p. not (is_plain_cell n m (row n p) (column n p)) in
    let h : n * n ≤ least (n * n) test = leb-true (n * n) (least (n * n) test) e in
    let at : (i j : ℕ) → i < n → j < n → PlainCell n m i j = λ i j hi hj.
    let p : ℕ = i * n + j in
    let l : p < least (n * n) test = omega (arith, place_lt n i j hi hj) in
    let s : is_plain_cell n m (row n p) (column n p) ≡ true = not-false _ ((least-is (n * n) test).before p l) in
    plain_cell n m i j (rw (place_div n i j hj, place-mod n i j hj) at s) in
    record {
      bytes = record { byte = λ i j hi hj. rw (at i j hi hj).opposite (converse-byte (cell n m j i)) };
      full = record { filled = λ i j hi hj. (at i j hi hj).full };
      diagonal = λ i h. (at i i h h).diagonal refl;
      opposite = λ i j hi hj. (at i j hi hj).opposite;
    }

-- and one that a round can start from passes
pub plain_passes : (n : ℕ) (m : List ℕ) → Plain n m → is_plain n m ≡ true
unfolding is_plain first_unplain
plain_passes n m P =
    let test : ℕ → Bool = λ p. not (is_plain_cell n m (row n p) (column n p)) in
    let p : ℕ = least (n * n) test in
    le-leb (n * n) p
    (split_lt p (n * n)
    (λ h.
    let i : ℕ = row n p in
    let j : ℕ = column n p in
    let hi : i < n = row_lt n p h in
    let hj : j < n = column_lt n p h in
    let passes : is_plain_cell n m i j ≡ true = passes_cell n m i j
    (record {
      full = P.full.filled i j hi hj;
      opposite = P.opposite i j hi hj;
      diagonal = λ d. subst (λ (x : ℕ). cell n m i x ≡ only equal) d (P.diagonal i hi);
    }) in
    absurd (true≢false (sym passes ∙ not-true _ ((least-is (n * n) test).found h))))
    (λ h. h))
