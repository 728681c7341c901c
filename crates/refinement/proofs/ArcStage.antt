-- The arc stage decides everything: matrices that agree after the arc rule have the same refinement.
use mathlib.Core.Path.{◌≡◌, refl, sym, ap, ◌∙◌}
use mathlib.Core.Bool.{Bool, cond}
use mathlib.Core.List.{List}
use Prim.Native.Nat.{ℕ, ◌<◌}
use borrow.Author.Tests.{eq-eqb, ne_eqb}
use lib.Dec.{eqb}
use Rattle.lists.proofs.Splits.{split_eq}
use Rattle.lists.proofs.LeastLaws.{least-same}
use Rattle.relation.specs.Relations.{equal}
use Rattle.relation.specs.Sets.{only, empty, intersect}
use Rattle.relation.specs.Converse.{converse}
use Rattle.relation.proofs.Within.{within-right, only_equal_within}
use Rattle.relation.proofs.ConverseLaws.{converse-empty, converse-equal}
use Rattle.matrix.specs.Cells.{cell}
use Rattle.matrix.proofs.CellLaws.{ext_cell}
use Rattle.refinement.specs.Node.{node, empty_region}
use Rattle.refinement.specs.Prepare.{prepared, preparation}
use Rattle.refinement.specs.Refine.{refine}
use Rattle.refinement.specs.Network.{Below, Network}
use Rattle.refinement.proofs.Stages.{length-arc, prepared-cell, prepared_region, network-node, network-arc}

-- ---- its cells, straight from those that were stated

-- a set within equal is its own converse
equal_stays : (s : ℕ) → intersect (intersect s (only equal)) (converse (intersect s (only equal))) ≡ intersect s (only equal)
equal_stays s =
    split_eq (intersect s (only equal)) empty
    (λ e. twice (intersect s (only equal)) empty e converse-empty refl)
    (λ d. twice (intersect s (only equal)) (only equal) (only_equal_within (within-right s (only equal)) d) converse-equal refl)
  where
    twice : (x y : ℕ) → x ≡ y → converse y ≡ y → intersect y y ≡ y → intersect x (converse x) ≡ x
    twice x y e f g = rw (e, f) g

pub prepared_on : (n : ℕ) (m : List ℕ) (i : ℕ) → i < n → cell n (prepared n m) i i ≡ intersect (cell n m i i) (only equal)
prepared_on n m i h =
    prepared-cell n m i i h h
    ∙ ap (λ (b : Bool). intersect (at b) (converse (at b))) (eq-eqb i i refl)
    ∙ equal_stays (cell n m i i)
  where
    at : Bool → ℕ
    at b = cond b (intersect (cell n m i i) (only equal)) (cell n m i i)

pub prepared_off : (n : ℕ) (m : List ℕ) (i j : ℕ) → i < n → j < n → (i ≡ j → ⊥)
    → cell n (prepared n m) i j ≡ intersect (cell n m i j) (converse (cell n m j i))
prepared_off n m i j hi hj d = prepared-cell n m i j hi hj ∙ rw (ne_eqb i j d, ne_eqb j i (λ e. d (sym e)))

-- ---- a network within the stated sets is within what it leaves of them

pub network-prepared : {n : ℕ} {m w : List ℕ} → Network n m w → Below n w (prepared n m)
network-prepared {n} {m} N = network-arc (node n m) N (network-node m N N.within)

-- ---- matrices that agree after it

-- what two matrices say of each region and of each pair, in both directions together, is the same
pub record SameArcs (n : ℕ) (a b : List ℕ) : Type 0 where
  pub regions : (i : ℕ) → i < n → intersect (cell n a i i) (only equal) ≡ intersect (cell n b i i) (only equal)
  pub pairs : (i j : ℕ) → i < n → j < n → (i ≡ j → ⊥)
      → intersect (cell n a i j) (converse (cell n a j i)) ≡ intersect (cell n b i j) (converse (cell n b j i))

pub same-arcs : (n : ℕ) (a b : List ℕ) → SameArcs n a b → prepared n a ≡ prepared n b
same-arcs n a b s =
    ext_cell n (prepared n a) (prepared n b) (length-arc n (node n a)) (length-arc n (node n b))
    (λ i j hi hj. split_eq i j
    (λ e. rw (← e) (prepared_on n a i hi ∙ s.regions i hi ∙ sym (prepared_on n b i hi)))
    (λ d. prepared_off n a i j hi hj d ∙ s.pairs i j hi hj d ∙ sym (prepared_off n b i j hi hj d)))

module _ (n : ℕ) (a b : List ℕ) (e : prepared n a ≡ prepared n b) where
  same_region : empty_region n (node n a) ≡ empty_region n (node n b)
  same_region =
      prepared_region n a
      ∙ least-same n (λ i. eqb (intersect (cell n a i i) (only equal)) 0) (λ i. eqb (intersect (cell n b i i) (only equal)) 0)
      (λ i h. ap (λ (x : ℕ). eqb x 0) (sym (prepared_on n a i h) ∙ ap (λ (m : List ℕ). cell n m i i) e ∙ prepared_on n b i h))
      ∙ sym (prepared_region n b)

  same-preparation : preparation n a ≡ preparation n b
  unfolding preparation
  same-preparation = rw (same_region, e)

  -- they have the same refinement
  pub same_refinement : refine n a ≡ refine n b
  unfolding refine
  same_refinement = rw (same-preparation, e)
