-- What follows from demand 3: an accepted network is below the stated sets and stays as it is, weaker statements give no
-- smaller network, and where nothing is stated nothing is lost.
use mathlib.Core.Path.{◌≡◌, refl, sym, ap, ◌∙◌, subst}
use mathlib.Core.Bool.{Bool, cond}
use mathlib.Core.List.{List}
use Prim.Native.Nat.{ℕ, ◌+◌, ◌*◌, ◌≤◌, ◌<◌}
use native.Mathlib.Omega.{arith}
use borrow.Author.Tests.{eq-eqb, ne_eqb}
use lib.Dec.{eqb}
use lib.ListN.{length, length-replicate, get_or-replicate}
use Rattle.answer.specs.Ending.{accepted, Accepted}
use Rattle.lists.proofs.Splits.{split_eq}
use Rattle.relation.specs.Relations.{equal}
use Rattle.relation.specs.Sets.{Within, has, only, empty, universal, intersect, over, union_of}
use Rattle.relation.specs.Converse.{converse}
use Rattle.relation.specs.Composition.{rows, table, compose}
use Rattle.relation.proofs.Within.{within_antisym}
use Rattle.relation.proofs.ConverseLaws.{converse-equal, converse-universal}
use Rattle.matrix.specs.Cells.{cell}
use Rattle.matrix.proofs.CellLaws.{length-grid, place_lt, cell-grid, ext_cell, none-empty}
use Rattle.refinement.specs.Node.{node, empty_region}
use Rattle.refinement.specs.Arc.{arc}
use Rattle.refinement.specs.declared.Step.TheVariants.{Same}
use Rattle.refinement.specs.Round.{round}
use Rattle.refinement.specs.Step.{step_of}
use Rattle.refinement.specs.Prepare.{prepared, preparation}
use Rattle.refinement.specs.Refine.{rounds, refine, refined}
use Rattle.refinement.specs.InRange.{InRange}
use Rattle.refinement.specs.Network.{Below, Network}
use Rattle.refinement.specs.Unstated.{nothing_stated, unknown_cell, unknown}
use Rattle.refinement.proofs.Stages.{below_refl, below_trans, network-plain, network-within, network-node, network-arc, network-round, length-node, length-arc, length-round, node-cell, node-below, arc-below, round-below, none_region_empty}
use Rattle.refinement.proofs.Preparing.{refine-rounds}
use Rattle.refinement.proofs.Stepping.{rests_step}
use Rattle.refinement.proofs.Limits.{refined_in_range}
use Rattle.refinement.proofs.Demand.{accepted-largest, accepted_if}

-- ---- no stage changes a network

module _ {n : ℕ} {m w : List ℕ} (N : Network n m w) where
  same_by_below : (a : List ℕ) → length a ≡ n * n → Below n a w → Below n w a → a ≡ w
  same_by_below a l p q =
      ext_cell n a w l N.size (λ i j hi hj. within_antisym (p.cells i j hi hj) (q.cells i j hi hj))

  pub network_node_same : node n w ≡ w
  network_node_same = same_by_below (node n w) (length-node n w) (node-below n w) (network-node w N (below_refl n w))

  pub network_arc_same : arc n w ≡ w
  network_arc_same = same_by_below (arc n w) (length-arc n w) (arc-below n w) (network-arc w N (below_refl n w))

  pub network_round_same : round n w ≡ w
  network_round_same =
      same_by_below (round n w) (length-round n w) (round-below n w (network-plain N)) (network-round w N (below_refl n w))

  -- refining a network gives it back after no round that changes anything
  pub refine-network : refine n w ≡ accepted w 0
  unfolding rounds
  refine-network =
      let regions : n ≤ empty_region n w = none_region_empty n w (λ i h. N.filled i i h h) in
      let made : prepared n w ≡ w = ap (arc n) network_node_same ∙ network_arc_same in
      let rests : step_of n w ≡ Same =
      rests_step
      (record {
        full = record { filled = rw network_round_same N.filled };
        same = λ i j hi hj. ap (λ (a : List ℕ). cell n a i j) network_round_same;
      }) in
      refine-rounds n w (rw network_node_same regions) (rw made (none-empty n w N.filled)) ∙ rw (made, rests)

-- ---- accepted networks

module _ (n : ℕ) (m : List ℕ) (first second : ℕ) (range : InRange n m first second)
    (w : List ℕ) (count : ℕ) (ends : refined n m first second ≡ accepted w count) where
  -- the accepted network is below the stated sets
  pub accepted-below : Below n w m
  accepted-below = (accepted-largest n m first second range w count ends).network.within

  -- refining it again changes nothing and counts no round
  pub refined-again : (third fourth : ℕ) → n * n ≤ third → n * n ≤ fourth → refined n w third fourth ≡ accepted w 0
  refined-again third fourth h k =
      let N : Network n m w = (accepted-largest n m first second range w count ends).network in
      refined_in_range (record {
        square = record { some = range.square.some; few = range.square.few; size = N.size };
        first-long = h;
        second-long = k;
      })
      ∙ refine-network N

  -- weaker statements are accepted too, and their network contains this one
  pub weaker_accepted : (wider : List ℕ) (third fourth : ℕ) → InRange n wider third fourth → Below n m wider
      → Accepted (refined n wider third fourth)
  weaker_accepted wider third fourth r B =
      let N : Network n m w = (accepted-largest n m first second range w count ends).network in
      accepted_if n wider third fourth r w (network-within wider N (below_trans n N.within B))

  pub weaker_contains : (wider : List ℕ) (third fourth : ℕ) → InRange n wider third fourth → Below n m wider
      → (v : List ℕ) (count' : ℕ) → refined n wider third fourth ≡ accepted v count' → Below n w v
  weaker_contains wider third fourth r B v count' e =
      let N : Network n m w = (accepted-largest n m first second range w count ends).network in
      (accepted-largest n wider third fourth r v count' e).contains w (network-within wider N (below_trans n N.within B))

-- ---- nothing stated

compose-universal : compose universal universal ≡ universal
unfolding compose over union_of has table rows
compose-universal = refl

unknown_self : (i : ℕ) → unknown_cell i i ≡ only equal
unknown_self i = ap (λ (b : Bool). cond b (only equal) universal) (eq-eqb i i refl)

unknown-other : (i j : ℕ) → (i ≡ j → ⊥) → unknown_cell i j ≡ universal
unknown-other i j d = ap (λ (b : Bool). cond b (only equal) universal) (ne_eqb i j d)

-- what holds of equal on the diagonal and of the universal set elsewhere holds of every such cell
by_unknown : (P : ℕ → ℕ → ℕ → Type 0) → ((i : ℕ) → P i i (only equal)) → ((i j : ℕ) → (i ≡ j → ⊥) → P i j universal)
    → (i j : ℕ) → P i j (unknown_cell i j)
by_unknown P d u i j =
    split_eq i j
    (λ e. subst (λ (x : ℕ). P i x (unknown_cell i x)) e (rw (unknown_self i) (d i)))
    (λ e. rw (unknown-other i j e) (u i j e))

module _ (n : ℕ) where
  universal-cell : (i j : ℕ) → i < n → j < n → cell n (nothing_stated n) i j ≡ universal
  universal-cell i j hi hj = get_or-replicate {A = ℕ} (n * n) (i * n + j) universal 0 (place_lt n i j hi hj)

  unknown-cell : (i j : ℕ) → i < n → j < n → cell n (unknown n) i j ≡ unknown_cell i j
  unfolding unknown
  unknown-cell i j hi hj = cell-grid n unknown_cell i j hi hj

  pub unknown-network : Network n (nothing_stated n) (unknown n)
  unfolding unknown
  unknown-network = record {
    size = length-grid n unknown_cell;
    within = record {
      cells = λ i j hi hj.
          rw (unknown-cell i j hi hj, universal-cell i j hi hj)
          (by_unknown (λ i j s. Within s universal) (λ i. record { meets = refl }) (λ i j d. record { meets = refl }) i j);
    };
    filled = λ i j hi hj e. none_empty_unknown i j (sym (unknown-cell i j hi hj) ∙ e);
    diagonal = λ i h. unknown-cell i i h h ∙ unknown_self i;
    opposite = λ i j hi hj. unknown-cell i j hi hj ∙ turned i j ∙ ap converse (sym (unknown-cell j i hj hi));
    third = λ i j k hi hj hk d e f.
        rw (
          unknown-cell i j hi hj,
          unknown-cell i k hi hk,
          unknown-cell k j hk hj,
          unknown-other i j d,
          unknown-other i k (λ z. e (sym z)),
          unknown-other k j f,
          compose-universal,
        )
        (record { meets = refl });
  }
    where
      none_empty_unknown : (i j : ℕ) → unknown_cell i j ≡ empty → ⊥
      none_empty_unknown =
          by_unknown (λ i j s. s ≡ empty → ⊥) (λ i z. let e : ◌≡◌ {A = ℕ} 4 0 = z in omega arith)
          (λ i j d z. let e : ◌≡◌ {A = ℕ} 255 0 = z in omega arith)

      turned : (i j : ℕ) → unknown_cell i j ≡ converse (unknown_cell j i)
      turned =
          by_unknown (λ i j s. s ≡ converse (unknown_cell j i)) (λ i. sym (ap converse (unknown_self i) ∙ converse-equal))
          (λ i j d. sym (ap converse (unknown-other j i (λ z. d (sym z))) ∙ converse-universal))

  -- the node rule makes it of a matrix that states nothing
  node-unknown : node n (nothing_stated n) ≡ unknown n
  unfolding unknown
  node-unknown =
      ext_cell n (node n (nothing_stated n)) (unknown n) (length-node n (nothing_stated n)) (length-grid n unknown_cell)
      (λ i j hi hj.
      node-cell n (nothing_stated n) i j hi hj
      ∙ ap (λ (x : ℕ). cond (eqb i j) (intersect x (only equal)) x) (universal-cell i j hi hj)
      ∙ sym (unknown-cell i j hi hj))

  refine_by_node : (a b : List ℕ) → node n a ≡ node n b → refine n a ≡ refine n b
  unfolding refine preparation
  refine_by_node a b e = rw e

  -- where nothing is stated, all is accepted at once and nothing is lost
  pub nothing_stated_lem : (first second : ℕ) → 1 ≤ n → n ≤ 64 → n * n ≤ first → n * n ≤ second
      → refined n (nothing_stated n) first second ≡ accepted (unknown n) 0
  nothing_stated_lem first second some few h k =
      refined_in_range (record {
        square = record { some = some; few = few; size = length-replicate {A = ℕ} (n * n) universal };
        first-long = h;
        second-long = k;
      })
      ∙ refine_by_node (nothing_stated n) (unknown n) (node-unknown ∙ sym (network_node_same unknown-network))
      ∙ refine-network unknown-network
