-- The cells of each stage, that each stage goes down and keeps every network, and what every round starts from.
use mathlib.Core.Path.{◌≡◌, refl, sym, ap, ap₂, ◌∙◌, subst}
use mathlib.Core.Bool.{Bool, cond}
use mathlib.Core.List.{List}
use Prim.Native.Nat.{ℕ, zero, suc, ◌+◌, ◌*◌, ◌≤◌, ◌<◌}
use native.Mathlib.Nat.{le_refl, le_trans}
use native.Mathlib.Numerals.{add-one}
use native.Mathlib.Omega.{arith}
use borrow.Author.Tests.{eqb-true, eqb-false, eq-eqb, ne_eqb}
use lib.Dec.{eqb, lit<}
use lib.ListN.{length, get_or}
use Rattle.lists.specs.Least.{least}
use Rattle.lists.proofs.Splits.{split_lt, split_eq}
use Rattle.lists.proofs.LeastLaws.{least-is, least-same}
use Rattle.relation.specs.Relations.{equal}
use Rattle.relation.specs.Sets.{Within, only, empty, universal, intersect}
use Rattle.relation.specs.Converse.{converse}
use Rattle.relation.specs.Composition.{compose}
use Rattle.relation.proofs.Within.{intersect_comm, intersect_assoc, within_refl, within_of_eq, within_trans, within_left, within-right, within_both, within-empty, within-byte, byte_within_universal, only_equal_within}
use Rattle.relation.proofs.ConverseLaws.{converse-byte, converse_twice, converse-within, converse-intersect, converse-equal, converse-universal}
use Rattle.relation.proofs.CompositionLaws.{compose-within, equal-compose, compose-equal, converse-compose, compose_loop}
use Rattle.matrix.specs.Cells.{cell, row, column, first_empty}
use Rattle.matrix.proofs.CellLaws.{length-grid, at_place, cell-grid, no_empty}
use Rattle.refinement.specs.Node.{node_cell, node, empty_region}
use Rattle.refinement.specs.Arc.{arc_cell, arc}
use Rattle.refinement.specs.Round.{through, round}
use Rattle.refinement.specs.Plain.{Bytes, Filled, Plain}
use Rattle.refinement.specs.Network.{Below, Network}

-- ---- matrices within one another

pub below_refl : (n : ℕ) (a : List ℕ) → Below n a a
below_refl n a = record { cells = λ i j hi hj. within_refl (cell n a i j) }

pub below_trans : (n : ℕ) {a b c : List ℕ} → Below n a b → Below n b c → Below n a c
below_trans n p q = record { cells = λ i j hi hj. within_trans (p.cells i j hi hj) (q.cells i j hi hj) }

pub below-bytes : (n : ℕ) {a b : List ℕ} → Below n a b → Bytes n b → Bytes n a
below-bytes n p B = record { byte = λ i j hi hj. within-byte (p.cells i j hi hj) (B.byte i j hi hj) }

-- an empty cell shuts out everything within the matrix that has none
pub empty_shuts : (n : ℕ) (m : List ℕ) (i j : ℕ) → i < n → j < n → cell n m i j ≡ empty
    → (w : List ℕ) → Below n w m → Filled n w → ⊥
empty_shuts n m i j hi hj e w b f =
    f.filled i j hi hj (within-empty (subst (Within (cell n w i j)) e (b.cells i j hi hj)))

-- ---- the cells of each stage

pub length-node : (n : ℕ) (m : List ℕ) → length (node n m) ≡ n * n
unfolding node
length-node n m = length-grid n (node_cell n m)

pub node-cell : (n : ℕ) (m : List ℕ) (i j : ℕ) → i < n → j < n → cell n (node n m) i j ≡ node_cell n m i j
unfolding node
node-cell n m i j hi hj = cell-grid n (node_cell n m) i j hi hj

pub node_self : (n : ℕ) (m : List ℕ) (i : ℕ) → i < n → cell n (node n m) i i ≡ intersect (cell n m i i) (only equal)
node_self n m i h =
    node-cell n m i i h h
    ∙ ap (λ (b : Bool). cond b (intersect (cell n m i i) (only equal)) (cell n m i i)) (eq-eqb i i refl)

pub node-other : (n : ℕ) (m : List ℕ) (i j : ℕ) → i < n → j < n → (i ≡ j → ⊥) → cell n (node n m) i j ≡ cell n m i j
node-other n m i j hi hj d =
    node-cell n m i j hi hj
    ∙ ap (λ (b : Bool). cond b (intersect (cell n m i j) (only equal)) (cell n m i j)) (ne_eqb i j d)

pub length-arc : (n : ℕ) (m : List ℕ) → length (arc n m) ≡ n * n
unfolding arc
length-arc n m = length-grid n (arc_cell n m)

pub arc-cell : (n : ℕ) (m : List ℕ) (i j : ℕ) → i < n → j < n → cell n (arc n m) i j ≡ arc_cell n m i j
unfolding arc
arc-cell n m i j hi hj = cell-grid n (arc_cell n m) i j hi hj

pub arc-place : (n : ℕ) (m : List ℕ) (p : ℕ) → p < n * n → get_or (arc n m) p 0 ≡ arc_cell n m (row n p) (column n p)
unfolding arc
arc-place n m p h = at_place n (arc_cell n m) p h

pub length-round : (n : ℕ) (m : List ℕ) → length (round n m) ≡ n * n
unfolding round
length-round n m = length-grid n (λ i j. through n m i j n)

pub round-cell : (n : ℕ) (m : List ℕ) (i j : ℕ) → i < n → j < n → cell n (round n m) i j ≡ through n m i j n
unfolding round
round-cell n m i j hi hj = cell-grid n (λ i j. through n m i j n) i j hi hj

-- both rules at once, straight from the cells
pub prepared-arc : (n : ℕ) (m : List ℕ) (i j : ℕ) → i < n → j < n
    → arc_cell n (node n m) i j ≡ intersect (node_cell n m i j) (converse (node_cell n m j i))
prepared-arc n m i j hi hj =
    ap₂ (λ (x y : ℕ). intersect x (converse y)) (node-cell n m i j hi hj) (node-cell n m j i hj hi)

pub prepared-cell : (n : ℕ) (m : List ℕ) (i j : ℕ) → i < n → j < n
    → cell n (arc n (node n m)) i j ≡ intersect (node_cell n m i j) (converse (node_cell n m j i))
prepared-cell n m i j hi hj = arc-cell n (node n m) i j hi hj ∙ prepared-arc n m i j hi hj

pub prepared_region : (n : ℕ) (m : List ℕ)
    → empty_region n (node n m) ≡ least n (λ i. eqb (intersect (cell n m i i) (only equal)) 0)
unfolding empty_region
prepared_region n m =
    least-same n (λ i. eqb (cell n (node n m) i i) 0) (λ i. eqb (intersect (cell n m i i) (only equal)) 0)
    (λ i h. ap (λ (x : ℕ). eqb x 0) (node_self n m i h))

-- ---- the intersection over places

pub through_more : (n : ℕ) (m : List ℕ) (i j k : ℕ)
    → through n m i j (k + 1) ≡ intersect (through n m i j k) (compose (cell n m i k) (cell n m k j))
unfolding through
through_more n m i j k = rw (add-one k)

-- it is within each composition, and whatever is within each of them is within it
pub through-within : (n : ℕ) (m : List ℕ) (i j count k : ℕ) → k < count
    → Within (through n m i j count) (compose (cell n m i k) (cell n m k j))
unfolding through
through-within n m i j zero k h = absurd (omega arith)
through-within n m i j (suc count) k h =
    let t : ℕ = through n m i j count in
    let c : ℕ = compose (cell n m i count) (cell n m count j) in
    split_lt k count
    (λ l. within_trans (within_left t c) (through-within n m i j count k l))
    (λ l. subst (λ (x : ℕ). Within (through n m i j (suc count)) (compose (cell n m i x) (cell n m x j))) (omega arith)
    (within-right t c))

pub through-largest : (n : ℕ) (m : List ℕ) (i j count s : ℕ) → Within s universal
    → ((k : ℕ) → k < count → Within s (compose (cell n m i k) (cell n m k j))) → Within s (through n m i j count)
unfolding through
through-largest n m i j zero s h f = h
through-largest n m i j (suc count) s h f =
    within_both (through-largest n m i j count s h (λ k l. f k (omega arith))) (f count (omega arith))

pub through-universal : (n : ℕ) (m : List ℕ) (i j count : ℕ) → Within (through n m i j count) universal
unfolding through
through-universal n m i j zero = within_refl universal
through-universal n m i j (suc count) =
    within_trans (within_left (through n m i j count) (compose (cell n m i count) (cell n m count j)))
    (through-universal n m i j count)

pub through-byte : (n : ℕ) (m : List ℕ) (i j count : ℕ) → through n m i j count < 256
through-byte n m i j count = within-byte (through-universal n m i j count) (lit< tt)

-- ---- the stages go down

pub node-below : (n : ℕ) (m : List ℕ) → Below n (node n m) m
node-below n m = record {
  cells = λ i j hi hj.
      split_eq i j
      (λ e. subst (λ (x : ℕ). Within (cell n (node n m) i x) (cell n m i x)) e
      (rw (node_self n m i hi) (within_left (cell n m i i) (only equal))))
      (λ d. within_of_eq (node-other n m i j hi hj d));
}

pub arc-below : (n : ℕ) (m : List ℕ) → Below n (arc n m) m
arc-below n m = record {
  cells = λ i j hi hj. rw (arc-cell n m i j hi hj) (within_left (cell n m i j) (converse (cell n m j i)));
}

-- going through region i itself gives (i, j) back
pub round-below : (n : ℕ) (m : List ℕ) → Plain n m → Below n (round n m) m
round-below n m P = record {
  cells = λ i j hi hj.
      rw (round-cell n m i j hi hj)
      (within_trans (through-within n m i j n i hi)
      (within_of_eq (ap (λ (x : ℕ). compose x (cell n m i j)) (P.diagonal i hi)
      ∙ equal-compose (cell n m i j) (P.bytes.byte i j hi hj))));
}

-- ---- what a network has besides

-- each cell is a byte, since it is a converse
pub network-bytes : {n : ℕ} {m w : List ℕ} → Network n m w → Bytes n w
network-bytes {n} {m} {w} N = record {
  byte = λ i j hi hj. rw (N.opposite i j hi hj) (converse-byte (cell n w j i));
}

pub network-plain : {n : ℕ} {m w : List ℕ} → Network n m w → Plain n w
network-plain N = record {
  bytes = network-bytes N;
  full = record { filled = N.filled };
  diagonal = N.diagonal;
  opposite = N.opposite;
}

-- a third region is enough: where two of the three are one, the composition asks nothing more
pub through_every_place : {n : ℕ} {m w : List ℕ} → Network n m w → (i j k : ℕ) → i < n → j < n → k < n
    → Within (cell n w i j) (compose (cell n w i k) (cell n w k j))
through_every_place {n} {m} {w} N i j k hi hj hk =
    let x : ℕ = cell n w i j in
    let b : x < 256 = (network-bytes N).byte i j hi hj in
    split_eq k i
    (λ e. within_of_eq (sym (equal-compose x b) ∙ ap (λ (y : ℕ). compose y x) (sym (N.diagonal i hi))
    ∙ ap (λ (y : ℕ). compose (cell n w i y) (cell n w y j)) (sym e)))
    (λ d. split_eq k j
    (λ e. within_of_eq (sym (compose-equal x b) ∙ ap (compose x) (sym (N.diagonal j hj))
    ∙ ap (λ (y : ℕ). compose (cell n w i y) (cell n w y j)) (sym e)))
    (λ f. split_eq i j
    (λ e. subst (λ (y : ℕ). Within (cell n w i y) (compose (cell n w i k) (cell n w k y))) e
    (rw (N.diagonal i hi, N.opposite k i hk hi)
    (compose_loop (cell n w i k) ((network-bytes N).byte i k hi hk) (N.filled i k hi hk))))
    (λ g. N.third i j k hi hj hk g d f)))

-- a network is one within any matrix that it is below
pub network-within : {n : ℕ} {m w : List ℕ} (a : List ℕ) → Network n m w → Below n w a → Network n a w
network-within a N B = record {
  size = N.size;
  within = B;
  filled = N.filled;
  diagonal = N.diagonal;
  opposite = N.opposite;
  third = N.third;
}

-- ---- a network stays within every stage

pub network-node : {n : ℕ} {m w : List ℕ} (a : List ℕ) → Network n m w → Below n w a → Below n w (node n a)
network-node {n} {m} {w} a N B = record {
  cells = λ i j hi hj.
      split_eq i j
      (λ e. subst (λ (x : ℕ). Within (cell n w i x) (cell n (node n a) i x)) e
      (rw (node_self n a i hi) (within_both (B.cells i i hi hi) (within_of_eq (N.diagonal i hi)))))
      (λ d. rw (node-other n a i j hi hj d) (B.cells i j hi hj));
}

pub network-arc : {n : ℕ} {m w : List ℕ} (a : List ℕ) → Network n m w → Below n w a → Below n w (arc n a)
network-arc {n} {m} {w} a N B = record {
  cells = λ i j hi hj.
      rw (arc-cell n a i j hi hj)
      (within_both (B.cells i j hi hj)
      (within_trans (within_of_eq (N.opposite i j hi hj)) (converse-within (B.cells j i hj hi))));
}

pub network-round : {n : ℕ} {m w : List ℕ} (a : List ℕ) → Network n m w → Below n w a → Below n w (round n a)
network-round {n} {m} {w} a N B = record {
  cells = λ i j hi hj.
      rw (round-cell n a i j hi hj)
      (through-largest n a i j n (cell n w i j) (byte_within_universal (cell n w i j) ((network-bytes N).byte i j hi hj))
      (λ k hk. within_trans (through_every_place N i j k hi hj hk) (compose-within (B.cells i k hi hk) (B.cells k j hk hj))));
}

-- ---- what each round starts from

-- the least region left empty has an empty cell
pub region_empty : (n : ℕ) (m : List ℕ) → empty_region n m < n → cell n m (empty_region n m) (empty_region n m) ≡ empty
unfolding empty_region
region_empty n m h =
    eqb-true (cell n m (empty_region n m) (empty_region n m)) 0 ((least-is n (λ i. eqb (cell n m i i) 0)).found h)

-- and where there is no such region, none has, and the other way round
pub no_region_empty : (n : ℕ) (m : List ℕ) → n ≤ empty_region n m → (i : ℕ) → i < n → cell n m i i ≡ empty → ⊥
unfolding empty_region
no_region_empty n m l i h = eqb-false (cell n m i i) 0 ((least-is n (λ i. eqb (cell n m i i) 0)).before i (le_trans h l))

pub none_region_empty : (n : ℕ) (m : List ℕ) → ((i : ℕ) → i < n → cell n m i i ≡ empty → ⊥) → n ≤ empty_region n m
none_region_empty n m h =
    split_lt (empty_region n m) n (λ l. absurd (h (empty_region n m) l (region_empty n m l))) (λ l. l)

-- where the node rule leaves no region empty, it leaves equal
pub node_done : (n : ℕ) (m : List ℕ) → n ≤ empty_region n (node n m) → (i : ℕ) → i < n → cell n (node n m) i i ≡ only equal
node_done n m l i h =
    only_equal_within (rw (node_self n m i h) (within-right (cell n m i i) (only equal))) (no_region_empty n (node n m) l i h)

pub arc-diagonal : (n : ℕ) (m : List ℕ) → ((i : ℕ) → i < n → cell n m i i ≡ only equal) → (i : ℕ) → i < n
    → cell n (arc n m) i i ≡ only equal
arc-diagonal n m D i h =
    arc-cell n m i i h h ∙ ap (λ (x : ℕ). intersect x (converse x)) (D i h) ∙ ap (intersect (only equal)) converse-equal

-- a converse looks at the eight relations alone, so that stated cells need not be bytes
converse_eight : (x : ℕ) → converse (intersect x universal) ≡ converse x
converse_eight x =
    converse-intersect x universal ∙ ap (intersect (converse x)) converse-universal
    ∙ (byte_within_universal (converse x) (converse-byte x)).meets

converse-back : (x : ℕ) → converse (converse x) ≡ intersect x universal
converse-back x =
    ap converse (sym (converse_eight x))
    ∙ converse_twice (intersect x universal) (within-byte (within-right x universal) (lit< tt))

pub arc-opposite : (n : ℕ) (m : List ℕ) (i j : ℕ) → i < n → j < n → cell n (arc n m) i j ≡ converse (cell n (arc n m) j i)
arc-opposite n m i j hi hj =
    let x : ℕ = cell n m i j in
    let y : ℕ = converse (cell n m j i) in
    let byte : intersect y x < 256 = within-byte (within_left y x) (converse-byte (cell n m j i)) in
    arc-cell n m i j hi hj ∙ intersect_comm x y
    ∙ sym (byte_within_universal (intersect y x) byte).meets ∙ intersect_assoc y x universal
    ∙ ap (intersect y) (sym (converse-back x))
    ∙ sym (converse-intersect (cell n m j i) (converse x)) ∙ ap converse (sym (arc-cell n m j i hj hi))

pub arc-bytes : (n : ℕ) (m : List ℕ) → Bytes n (arc n m)
arc-bytes n m = record {
  byte = λ i j hi hj.
      rw (arc-cell n m i j hi hj)
      (within-byte (within-right (cell n m i j) (converse (cell n m j i))) (converse-byte (cell n m j i)));
}

pub arc-plain : (n : ℕ) (m : List ℕ) → ((i : ℕ) → i < n → cell n m i i ≡ only equal) → Filled n (arc n m)
    → Plain n (arc n m)
arc-plain n m D F = record {
  bytes = arc-bytes n m;
  full = F;
  diagonal = arc-diagonal n m D;
  opposite = arc-opposite n m;
}

-- where the arc rule leaves no cell empty, the rounds can start
pub arc_done : (n : ℕ) (m : List ℕ) → n ≤ empty_region n (node n m) → n * n ≤ first_empty (n * n) (arc n (node n m))
    → Plain n (arc n (node n m))
arc_done n m l h =
    arc-plain n (node n m) (node_done n m l)
    (record { filled = no_empty n (arc n (node n m)) h })

-- the intersections of two opposite cells are each other's converse
through-opposite : (n : ℕ) (m : List ℕ) → Plain n m → (i j : ℕ) → i < n → j < n → (count : ℕ) → count ≤ n
    → through n m i j count ≡ converse (through n m j i count)
unfolding through
through-opposite n m P i j hi hj zero h = sym converse-universal
through-opposite n m P i j hi hj (suc k) h =
    let t : ℕ = through n m j i k in
    ap₂ intersect (through-opposite n m P i j hi hj k (omega arith))
    (ap₂ compose (P.opposite i k hi h) (P.opposite k j h hj) ∙ sym (converse-compose (cell n m j k) (cell n m k i)))
    ∙ sym (converse-intersect t (compose (cell n m j k) (cell n m k i)))

pub round-bytes : (n : ℕ) (m : List ℕ) → Bytes n (round n m)
round-bytes n m = record { byte = λ i j hi hj. rw (round-cell n m i j hi hj) (through-byte n m i j n) }

-- a round that empties nothing leaves what the next can start from
pub round-plain : (n : ℕ) (m : List ℕ) → Plain n m → Filled n (round n m) → Plain n (round n m)
round-plain n m P F = record {
  bytes = round-bytes n m;
  full = F;
  diagonal = λ i h. only_equal_within
      (subst (Within (cell n (round n m) i i)) (P.diagonal i h) ((round-below n m P).cells i i h h)) (F.filled i i h h);
  opposite = λ i j hi hj.
      round-cell n m i j hi hj ∙ through-opposite n m P i j hi hj n (le_refl n) ∙ ap converse (sym (round-cell n m j i hj hi));
}

-- a matrix that a round leaves as it is, is a network
pub fixed_network : (n : ℕ) (m a : List ℕ) → length a ≡ n * n → Plain n a → Below n a m
    → ((i j : ℕ) → i < n → j < n → cell n (round n a) i j ≡ cell n a i j) → Network n m a
fixed_network n m a l P B same = record {
  size = l;
  within = B;
  filled = P.full.filled;
  diagonal = P.diagonal;
  opposite = P.opposite;
  third = λ i j k hi hj hk d e f.
      within_trans (within_of_eq (sym (same i j hi hj) ∙ round-cell n a i j hi hj)) (through-within n a i j n k hk);
}
