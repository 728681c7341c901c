-- Where a round empties a cell, the three regions that are named differ: the diagonal keeps equal, and a composition through
-- either end gives the cell back.
use mathlib.Core.Path.{◌≡◌, sym, ap, ◌∙◌, subst}
use mathlib.Core.Bool.{true≢false}
use mathlib.Core.List.{List}
use Prim.Native.Nat.{ℕ, zero, suc, ◌≤◌, ◌<◌}
use native.Mathlib.Nat.{le_refl}
use native.Mathlib.Omega.{arith}
use borrow.Author.Tests.{eqb-true, eq-eqb}
use lib.Bits.{and_zero_r}
use lib.Dec.{eqb, lit<}
use Rattle.lists.proofs.Splits.{split_lt}
use Rattle.lists.proofs.LeastLaws.{Least, least-is}
use Rattle.region.specs.Lookup.{place}
use Rattle.region.specs.declared.Place.{Place}
use Rattle.relation.specs.Relations.{equal}
use Rattle.relation.specs.Sets.{Within, only, empty, intersect}
use Rattle.relation.specs.Composition.{compose}
use Rattle.relation.proofs.Within.{intersect_assoc, within_left, within-empty, byte_within_universal}
use Rattle.relation.proofs.CompositionLaws.{equal-compose, compose-equal, compose_loop}
use Rattle.matrix.specs.Cells.{cell}
use Rattle.refinement.specs.declared.Step.{Step}
use Rattle.refinement.specs.declared.Step.TheVariants.{Empty}
use Rattle.refinement.specs.Step.{step_of}
use Rattle.refinement.specs.Round.{through, ran_out}
use Rattle.refinement.specs.Plain.{Plain}
use Rattle.refinement.specs.Ends.{Three}
use Rattle.refinement.proofs.Stages.{through-largest}
use Rattle.refinement.proofs.Stepping.{by_step}

-- the diagonal keeps equal
pub through_self : (n : ℕ) (m : List ℕ) → Plain n m → (i : ℕ) → i < n → through n m i i n ≡ empty → ⊥
through_self n m P i h e =
    let s : Within (only equal) (through n m i i n) =
    through-largest n m i i n (only equal) (byte_within_universal (only equal) (lit< tt))
    (λ k l. rw (P.opposite k i l h) (compose_loop (cell n m i k) (P.bytes.byte i k h l) (P.full.filled i k h l))) in
    let z : ◌≡◌ {A = ℕ} 4 0 = within-empty (subst (Within (only equal)) e s) in
    omega arith

-- what is left of (i, j) after the compositions through the first `count` places
left : ℕ → List ℕ → ℕ → ℕ → ℕ → ℕ
left n m i j count = intersect (cell n m i j) (through n m i j count)

-- a composition that gives (i, j) back takes nothing away
left_same : (n : ℕ) (m : List ℕ) (i j k : ℕ) → compose (cell n m i k) (cell n m k j) ≡ cell n m i j
    → left n m i j (suc k) ≡ left n m i j k
unfolding left through
left_same n m i j k e =
    let x : ℕ = cell n m i j in
    let t : ℕ = through n m i j k in
    ap (λ (y : ℕ). intersect x (intersect t y)) e ∙ sym (intersect_assoc x t x) ∙ (within_left x t).meets

module _ (n : ℕ) (m : List ℕ) (i j : ℕ) (P : Plain n m) (hi : i < n) (hj : j < n) where
  abbrev Out : ℕ → Type 0
  Out r = Least n (λ k. eqb (left n m i j (suc k)) 0) r

  -- up to the least k something is left
  left_before : (k r : ℕ) → k ≤ r → Out r → left n m i j k ≡ empty → ⊥
  unfolding left through
  left_before zero r l M e =
      P.full.filled i j hi hj (sym (byte_within_universal (cell n m i j) (P.bytes.byte i j hi hj)).meets ∙ e)
  left_before (suc k) r l M e = true≢false (sym (eq-eqb (left n m i j (suc k)) 0 e) ∙ M.before k l)

  pub three_differ : through n m i j n ≡ empty → Three n i (ran_out n m i j) j
  unfolding ran_out left
  three_differ z =
      let k : ℕ = ran_out n m i j in
      let x : ℕ = cell n m i j in
      let M : Out k = least-is n (λ k. eqb (left n m i j (suc k)) 0) in
      let kn : k < n = split_lt k n (λ l. l) (λ l. absurd (left_before n k l M (ap (intersect x) z ∙ and_zero_r x))) in
      let gone : left n m i j (suc k) ≡ empty = eqb-true (left n m i j (suc k)) 0 (M.found kn) in
      let kept : compose (cell n m i k) (cell n m k j) ≡ x → ⊥ =
      λ e. left_before k k (le_refl k) M (sym (left_same n m i j k e) ∙ gone) in
      record {
        first = hi;
        middle = kn;
        last = hj;
        ends_differ = λ e. through_self n m P i hi (subst (λ (y : ℕ). through n m i y n ≡ empty) (sym e) z);
        first_differs = λ e. kept (subst (λ (y : ℕ). compose (cell n m i y) (cell n m y j) ≡ x) (sym e)
            (ap (λ (y : ℕ). compose y x) (P.diagonal i hi) ∙ equal-compose x (P.bytes.byte i j hi hj)));
        last_differs = λ e. kept (subst (λ (y : ℕ). compose (cell n m i y) (cell n m y j) ≡ x) (sym e)
            (ap (compose x) (P.diagonal j hj) ∙ compose-equal x (P.bytes.byte i j hi hj)));
      }

-- so a step that runs empty has run out at one of the places
pub ran_out_below : (n : ℕ) (m : List ℕ) → Plain n m → (a b : ℕ) (k : Place) → step_of n m ≡ Empty (place a) k (place b) → ran_out n m a b < n
ran_out_below n m P a b k =
    by_step (λ (s : Step). s ≡ Empty (place a) k (place b) → ran_out n m a b < n) n m
    (λ i j e q.
    let first : place i ≡ place a = cc in
    let last : place j ≡ place b = cc in
    subst (λ (x : ℕ). ran_out n m x b < n) (ap (λ (x : Place). x.0) first)
    (subst (λ (x : ℕ). ran_out n m i x < n) (ap (λ (x : Place). x.0) last) (three_differ n m i j P e.first e.last e.empties).middle))
    (λ r q. absurd cc)
    (λ r q. absurd cc)
