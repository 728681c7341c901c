-- It does not matter from which side a pair is spoken of: a statement that is turned leaves, of each pair, the same in both
-- directions together.
use mathlib.Core.Path.{◌≡◌, refl, sym, ap, ap₂, ◌∙◌}
use mathlib.Core.Bool.{Bool, true, false, cond, ◌&&◌}
use mathlib.Core.List.{List, ◌∷◌}
use Prim.Native.Nat.{ℕ}
use native.Mathlib.Omega.{arith}
use lib.Dec.{eqb}
use Rattle.lists.proofs.Splits.{split_eq}
use Rattle.relation.specs.Relations.{equal}
use Rattle.relation.specs.Sets.{only, empty, universal, intersect, Within}
use Rattle.relation.specs.Converse.{converse}
use Rattle.relation.proofs.Within.{intersect_comm, intersect_assoc, within-right, within_trans, within-byte, byte_within_universal, only_equal_within}
use Rattle.relation.proofs.ConverseLaws.{converse-byte, converse_twice, converse-intersect, converse-empty, converse-equal, converse-universal}
use Rattle.filing.specs.Said.{Statement}
use Rattle.filing.specs.Stated.{stated_cell}
use Rattle.filing.specs.Turned.{turned, Turned, none, kept, turns}

-- ---- a pair in both directions together

-- what a pair loses to a set that is stated of it in this direction, in the other, or in both
abbrev less : Bool → Bool → ℕ → ℕ → ℕ
less true true set both = intersect both (intersect set (converse set))
less true false set both = intersect both set
less false true set both = intersect both (converse set)
less false false set both = both

abbrev together : ℕ → ℕ → ℕ
together there back = intersect there (converse back)

gathered : (here away : Bool) (there back set : ℕ)
    → together (cond here (intersect there set) there) (cond away (intersect back set) back) ≡ less here away set (together there back)
gathered true true there back set =
    ap (intersect (intersect there set)) (converse-intersect back set)
    ∙ intersect_assoc there set (intersect (converse back) (converse set))
    ∙ ap (intersect there)
    (sym (intersect_assoc set (converse back) (converse set))
    ∙ ap (λ (x : ℕ). intersect x (converse set)) (intersect_comm set (converse back))
    ∙ intersect_assoc (converse back) set (converse set))
    ∙ sym (intersect_assoc there (converse back) (intersect set (converse set)))
gathered true false there back set =
    intersect_assoc there set (converse back)
    ∙ ap (intersect there) (intersect_comm set (converse back))
    ∙ sym (intersect_assoc there (converse back) set)
gathered false true there back set =
    ap (intersect there) (converse-intersect back set) ∙ sym (intersect_assoc there (converse back) (converse set))
gathered false false there back set = refl

-- both directions together are a set of the eight relations
together_eight : (there back : ℕ) → Within (together there back) universal
together_eight there back =
    within_trans (within-right there (converse back)) (byte_within_universal (converse back) (converse-byte back))

-- the converse of the converse keeps the eight relations of whatever was stated
back-again : (set : ℕ) → converse (converse set) ≡ intersect set universal
back-again set =
    let eight : ℕ = intersect set universal in
    let same : converse eight ≡ converse set =
    converse-intersect set universal
    ∙ ap (intersect (converse set)) converse-universal
    ∙ (byte_within_universal (converse set) (converse-byte set)).meets in
    ap converse (sym same) ∙ converse_twice eight (within-byte (within-right set universal) (omega arith))

module _ (both set : ℕ) (eight : Within both universal) where
  stays : intersect both (converse (converse set)) ≡ intersect both set
  stays =
      ap (intersect both) (back-again set ∙ intersect_comm set universal)
      ∙ sym (intersect_assoc both universal set)
      ∙ ap (λ (x : ℕ). intersect x set) eight.meets

  -- a statement turned takes the same from the pair
  turned_less : (here away : Bool) → less here away set both ≡ less away here (converse set) both
  turned_less true true =
      sym (intersect_assoc both set (converse set))
      ∙ ap (λ (x : ℕ). intersect x (converse set)) (sym stays)
      ∙ intersect_assoc both (converse (converse set)) (converse set)
      ∙ ap (intersect both) (intersect_comm (converse (converse set)) (converse set))
  turned_less true false = sym stays
  turned_less false true = refl
  turned_less false false = refl

and_comm : (a b : Bool) → (a && b) ≡ (b && a)
and_comm true true = refl
and_comm true false = refl
and_comm false true = refl
and_comm false false = refl

module _ (start : ℕ → ℕ → ℕ) (i j : ℕ) where
  abbrev pair : List Statement → ℕ
  pair statements = together (stated_cell start statements i j) (stated_cell start statements j i)

  abbrev hits : Statement → ℕ → ℕ → Bool
  hits s k l = eqb s.from k && eqb s.to l

  pair_more : (s : Statement) (statements : List Statement)
      → pair (s ∷ statements) ≡ less (hits s i j) (hits s j i) s.set (pair statements)
  unfolding stated_cell
  pair_more s statements =
      gathered (hits s i j) (hits s j i) (stated_cell start statements i j) (stated_cell start statements j i) s.set

  -- of two regions the same is left in both directions together
  pub turned_pair : {one other : List Statement} → Turned one other → pair one ≡ pair other
  turned_pair none = refl
  turned_pair (kept {one} {other} s t) =
      pair_more s one ∙ ap (less (hits s i j) (hits s j i) s.set) (turned_pair t) ∙ sym (pair_more s other)
  turned_pair (turns {one} {other} s t) =
      pair_more s one
      ∙ ap (less (hits s i j) (hits s j i) s.set) (turned_pair t)
      ∙ turned_less (pair other) s.set (together_eight (stated_cell start other i j) (stated_cell start other j i)) (hits s i j) (hits s j i)
      ∙ ap₂ (λ (x y : Bool). less x y (converse s.set) (pair other)) (and_comm (eqb s.from j) (eqb s.to i))
      (and_comm (eqb s.from i) (eqb s.to j))
      ∙ sym (pair_more (turned s) other)

-- ---- a region and itself

-- a set within equal is its own converse
own_converse : (x y : ℕ) → x ≡ y → converse y ≡ y → converse x ≡ x
own_converse x y e f = ap converse e ∙ f ∙ sym e

-- what a set and its converse have of equal is the same
equal_both : (set : ℕ) → intersect set (only equal) ≡ intersect (converse set) (only equal)
equal_both set =
    let x : ℕ = intersect set (only equal) in
    let own : converse x ≡ x = split_eq x empty (λ e. own_converse x empty e converse-empty)
    (λ d. own_converse x (only equal) (only_equal_within (within-right set (only equal)) d) converse-equal) in
    sym own ∙ converse-intersect set (only equal) ∙ ap (intersect (converse set)) converse-equal

module _ (start : ℕ → ℕ → ℕ) (i : ℕ) where
  abbrev region : List Statement → ℕ
  region statements = intersect (stated_cell start statements i i) (only equal)

  abbrev own_hits : Statement → Bool
  own_hits s = eqb s.from i && eqb s.to i

  region_more : (s : Statement) (statements : List Statement)
      → region (s ∷ statements) ≡ cond (own_hits s) (intersect (region statements) (intersect s.set (only equal))) (region statements)
  unfolding stated_cell
  region_more s statements = go (own_hits s) (stated_cell start statements i i)
    where
      go : (b : Bool) (a : ℕ)
          → intersect (cond b (intersect a s.set) a) (only equal)
          ≡ cond b (intersect (intersect a (only equal)) (intersect s.set (only equal))) (intersect a (only equal))
      go true a =
          let e : ℕ = only equal in
          intersect_assoc a s.set e
          ∙ ap (intersect a)
          (sym (within-right s.set e).meets ∙ intersect_comm (intersect s.set e) e)
          ∙ sym (intersect_assoc a e (intersect s.set e))
      go false a = refl

  -- of a region and itself the same is left
  pub turned_region : {one other : List Statement} → Turned one other → region one ≡ region other
  turned_region none = refl
  turned_region (kept {one} {other} s t) =
      region_more s one
      ∙ ap (λ (r : ℕ). cond (own_hits s) (intersect r (intersect s.set (only equal))) r) (turned_region t)
      ∙ sym (region_more s other)
  turned_region (turns {one} {other} s t) =
      region_more s one
      ∙ ap (λ (r : ℕ). cond (own_hits s) (intersect r (intersect s.set (only equal))) r) (turned_region t)
      ∙ ap₂ (λ (b : Bool) (x : ℕ). cond b (intersect (region other) x) (region other)) (and_comm (eqb s.from i) (eqb s.to i))
      (equal_both s.set)
      ∙ sym (region_more (turned s) other)
