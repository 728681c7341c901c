-- The order of the regions does not matter: renumbering them commutes with every stage, and refining ends in the same way,
-- after the same rounds, with the network renumbered.
use mathlib.Core.Path.{◌≡◌, refl, sym, ap, ap₂, ◌∙◌, subst}
use mathlib.Core.List.{List}
use Prim.Native.Nat.{ℕ, zero, suc, ◌*◌, ◌≤◌, ◌<◌}
use lib.ListN.{length}
use Rattle.std.specs.Prelude.{Ok}
use Rattle.answer.specs.Answer.{Answer}
use Rattle.answer.specs.Ending.{Ending, accepted, refused}
use Rattle.lists.proofs.Splits.{split_eq}
use Rattle.relation.specs.Relations.{equal}
use Rattle.relation.specs.Sets.{only, intersect}
use Rattle.relation.specs.Converse.{converse}
use Rattle.relation.specs.Composition.{compose}
use Rattle.relation.proofs.Within.{within_antisym, within_of_eq, within_trans}
use Rattle.matrix.specs.Cells.{cell}
use Rattle.matrix.proofs.CellLaws.{Change, length-grid, cell-grid, ext_cell, no_empty, none-empty}
use Rattle.refinement.specs.declared.Step.{Step}
use Rattle.refinement.specs.declared.Step.TheVariants.{Same, Changed}
use Rattle.refinement.specs.Node.{node, empty_region}
use Rattle.refinement.specs.Arc.{arc}
use Rattle.refinement.specs.Prepare.{Preparation, prepared, preparation}
use Rattle.refinement.specs.Round.{through, round}
use Rattle.refinement.specs.Step.{step_of}
use Rattle.refinement.specs.Refine.{most_rounds, stepped, rounds, all_rounds, started, refine}
use Rattle.refinement.specs.Plain.{Filled}
use Rattle.refinement.specs.Renumbering.{Renumbering, renumbered, back, Alike}
use Rattle.refinement.proofs.Stages.{length-node, length-arc, length-round, node_self, node-other, arc-cell, round-cell, through-within, through-largest, through-universal, no_region_empty, none_region_empty}
use Rattle.refinement.proofs.Preparing.{RegionEmpty, PairEmpty, NoneEmpty, AtSomeRegion, AtSomePair, some_region, some_pair, preparation_ready, by_preparation}
use Rattle.refinement.proofs.Stepping.{RunsEmpty, Rests, Moves, EmptyStep, runs_empty_step, rests_step, moves_step, by_step}

module _ (n : ℕ) (π : Renumbering n) where
  pub length-renumbered : (m : List ℕ) → length (renumbered n π m) ≡ n * n
  unfolding renumbered
  length-renumbered m = length-grid n (λ i j. cell n m (π.to i) (π.to j))

  pub renumbered-cell : (m : List ℕ) (i j : ℕ) → i < n → j < n → cell n (renumbered n π m) i j ≡ cell n m (π.to i) (π.to j)
  unfolding renumbered
  renumbered-cell m i j hi hj = cell-grid n (λ i j. cell n m (π.to i) (π.to j)) i j hi hj

  -- a matrix whose cells are those of m by the new numbers is m renumbered
  is-renumbered : (a m : List ℕ) → length a ≡ n * n
      → ((i j : ℕ) → i < n → j < n → cell n a i j ≡ cell n m (π.to i) (π.to j)) → a ≡ renumbered n π m
  is-renumbered a m l h =
      ext_cell n a (renumbered n π m) l (length-renumbered m) (λ i j hi hj. h i j hi hj ∙ sym (renumbered-cell m i j hi hj))

  -- different regions have different numbers
  to_differs : (i j : ℕ) → i < n → j < n → (i ≡ j → ⊥) → π.to i ≡ π.to j → ⊥
  to_differs i j hi hj d e = d (sym (π.from-to i hi) ∙ ap π.from e ∙ π.from-to j hj)

  -- ---- the stages

  pub renumber_node : (m : List ℕ) → node n (renumbered n π m) ≡ renumbered n π (node n m)
  renumber_node m =
      let r : List ℕ = renumbered n π m in
      is-renumbered (node n r) (node n m) (length-node n r)
      (λ i j hi hj.
      split_eq i j
      (λ e. subst (λ (x : ℕ). cell n (node n r) i x ≡ cell n (node n m) (π.to i) (π.to x)) e
      (node_self n r i hi ∙ ap (λ (x : ℕ). intersect x (only equal)) (renumbered-cell m i i hi hi)
      ∙ sym (node_self n m (π.to i) (π.to_below i hi))))
      (λ d. node-other n r i j hi hj d ∙ renumbered-cell m i j hi hj
      ∙ sym (node-other n m (π.to i) (π.to j) (π.to_below i hi) (π.to_below j hj) (to_differs i j hi hj d))))

  pub renumber_arc : (m : List ℕ) → arc n (renumbered n π m) ≡ renumbered n π (arc n m)
  renumber_arc m =
      let r : List ℕ = renumbered n π m in
      is-renumbered (arc n r) (arc n m) (length-arc n r)
      (λ i j hi hj.
      arc-cell n r i j hi hj
      ∙ ap₂ (λ (x y : ℕ). intersect x (converse y)) (renumbered-cell m i j hi hj) (renumbered-cell m j i hj hi)
      ∙ sym (arc-cell n m (π.to i) (π.to j) (π.to_below i hi) (π.to_below j hj)))

  -- the intersection over all places does not depend on their order
  renumber_through : (m : List ℕ) (i j : ℕ) → i < n → j < n
      → through n (renumbered n π m) i j n ≡ through n m (π.to i) (π.to j) n
  renumber_through m i j hi hj =
      within_antisym
      (through-largest n m (π.to i) (π.to j) n (through n r i j n) (through-universal n r i j n)
      (λ k hk.
      within_trans (through-within n r i j n (π.from k) (π.from-below k hk))
      (within_of_eq (path (π.from k) (π.from-below k hk)
      ∙ ap (λ (x : ℕ). compose (cell n m (π.to i) x) (cell n m x (π.to j))) (π.to-from k hk)))))
      (through-largest n r i j n (through n m (π.to i) (π.to j) n) (through-universal n m (π.to i) (π.to j) n)
      (λ k hk.
      within_trans (through-within n m (π.to i) (π.to j) n (π.to k) (π.to_below k hk)) (within_of_eq (sym (path k hk)))))
    where
      r : List ℕ
      r = renumbered n π m

      path : (k : ℕ) → k < n
          → compose (cell n r i k) (cell n r k j) ≡ compose (cell n m (π.to i) (π.to k)) (cell n m (π.to k) (π.to j))
      path k hk = ap₂ compose (renumbered-cell m i k hi hk) (renumbered-cell m k j hk hj)

  pub renumber_round : (m : List ℕ) → round n (renumbered n π m) ≡ renumbered n π (round n m)
  renumber_round m =
      let r : List ℕ = renumbered n π m in
      is-renumbered (round n r) (round n m) (length-round n r)
      (λ i j hi hj.
      round-cell n r i j hi hj ∙ renumber_through m i j hi hj
      ∙ sym (round-cell n m (π.to i) (π.to j) (π.to_below i hi) (π.to_below j hj)))

  -- ---- the other way

  -- every cell of m is one of the renumbered matrix
  cell-back : (m : List ℕ) (i j : ℕ) → i < n → j < n → cell n (renumbered n π m) (π.from i) (π.from j) ≡ cell n m i j
  cell-back m i j hi hj =
      renumbered-cell m (π.from i) (π.from j) (π.from-below i hi) (π.from-below j hj)
      ∙ ap₂ (cell n m) (π.to-from i hi) (π.to-from j hj)

  renumber_filled : (m : List ℕ) → Filled n m → Filled n (renumbered n π m)
  renumber_filled m F = record {
    filled = λ i j hi hj e.
        F.filled (π.to i) (π.to j) (π.to_below i hi) (π.to_below j hj) (sym (renumbered-cell m i j hi hj) ∙ e);
  }

  renumber_change : (new old : List ℕ) → Change n new old → Change n (renumbered n π new) (renumbered n π old)
  renumber_change new old c = record {
    first = π.from c.first;
    second = π.from c.second;
    first_lt = π.from-below c.first c.first_lt;
    second_lt = π.from-below c.second c.second_lt;
    differs = λ e.
        c.differs
        (sym (cell-back new c.first c.second c.first_lt c.second_lt) ∙ e
        ∙ cell-back old c.first c.second c.first_lt c.second_lt);
  }

  -- ---- what preparing and a step find

  renumber_prepared : (m : List ℕ) → prepared n (renumbered n π m) ≡ renumbered n π (prepared n m)
  renumber_prepared m = ap (arc n) (renumber_node m) ∙ renumber_arc (node n m)

  renumber_regions : (m : List ℕ) → n ≤ empty_region n (node n m) → n ≤ empty_region n (node n (renumbered n π m))
  renumber_regions m l =
      rw (renumber_node m)
      (none_region_empty n (renumbered n π (node n m))
      (λ i h e. no_region_empty n (node n m) l (π.to i) (π.to_below i h) (sym (renumbered-cell (node n m) i i h h) ∙ e)))

  region_renumbered : (m : List ℕ) (i : ℕ) → RegionEmpty n m i → AtSomeRegion n (renumbered n π m)
  region_renumbered m i e =
      some_region (renumbered n π m) (π.from-below i e.inside)
      (rw (renumber_node m) (cell-back (node n m) i i e.inside e.inside ∙ e.empties))

  pair_renumbered : (m : List ℕ) (i j : ℕ) → PairEmpty n m i j → AtSomePair n (renumbered n π m)
  pair_renumbered m i j e =
      some_pair (renumbered n π m) (renumber_regions m e.regions) (π.from-below i e.first) (π.from-below j e.second)
      (rw (renumber_prepared m) (cell-back (prepared n m) i j e.first e.second ∙ e.empties))

  ready_renumbered : (m : List ℕ) → NoneEmpty n m → preparation n (renumbered n π m) ≡ Ok tt
  ready_renumbered m e =
      preparation_ready n (renumbered n π m) (renumber_regions m e.regions)
      (rw (renumber_prepared m)
      (none-empty n (renumbered n π (prepared n m))
      (renumber_filled (prepared n m) (record { filled = no_empty n (prepared n m) e.cells })).filled))

  empty-renumbered : (old : List ℕ) (i j : ℕ) → RunsEmpty n old i j → EmptyStep n (renumbered n π old)
  empty-renumbered old i j e =
      let first : π.from i < n = π.from-below i e.first in
      let last : π.from j < n = π.from-below j e.last in
      runs_empty_step
      (record {
        first = first;
        last = last;
        empties = renumber_through old (π.from i) (π.from j) first last
            ∙ ap₂ (λ (x y : ℕ). through n old x y n) (π.to-from i e.first) (π.to-from j e.last)
            ∙ e.empties;
      })

  full-renumbered : (old : List ℕ) → Filled n (round n old) → Filled n (round n (renumbered n π old))
  full-renumbered old F = rw (renumber_round old) (renumber_filled (round n old) F)

  rests_renumbered : (old : List ℕ) → Rests n old → step_of n (renumbered n π old) ≡ Same
  rests_renumbered old r =
      rests_step
      (record {
        full = full-renumbered old r.full;
        same = λ i j hi hj.
            rw (renumber_round old)
            (renumbered-cell (round n old) i j hi hj ∙ r.same (π.to i) (π.to j) (π.to_below i hi) (π.to_below j hj)
            ∙ sym (renumbered-cell old i j hi hj));
      })

  moves_renumbered : (old : List ℕ) → Moves n old → step_of n (renumbered n π old) ≡ Changed
  moves_renumbered old m =
      moves_step
      (record { full = full-renumbered old m.full; change = rw (renumber_round old) (renumber_change (round n old) old m.change) })

  -- ---- the endings

  rounds_alike : (more count : ℕ) (old : List ℕ)
      → Alike n π (rounds more n count old) (rounds more n count (renumbered n π old))
  unfolding rounds
  rounds_alike zero count old = (refl, refl)
  rounds_alike (suc more) count old =
      by_step
      (λ (s : Step).
      Alike n π (stepped s count old (λ _. rounds more n (suc count) (round n old))) (rounds (suc more) n count (renumbered n π old)))
      n old
      (λ i j e. rw (empty-renumbered old i j e).is (refl, refl))
      (λ r. rw (rests_renumbered old r) (refl, refl))
      (λ m. rw (moves_renumbered old m, renumber_round old) (rounds_alike more (suc count) (round n old)))

  pub refine_alike : (m : List ℕ) → Alike n π (refine n m) (refine n (renumbered n π m))
  unfolding refine
  refine_alike m =
      by_preparation
      (λ (answer : Preparation). Alike n π (started answer (λ _. all_rounds n (prepared n m))) (refine n (renumbered n π m))) n m
      (λ i e. rw (region_renumbered m i e).is (refl, refl))
      (λ i j e. rw (pair_renumbered m i j e).is (refl, refl))
      (λ e.
      rw (ready_renumbered m e, renumber_prepared m) (rounds_alike (suc (most_rounds n)) 0 (prepared n m)))

  -- the renumbered matrix is accepted after as many rounds, with the network renumbered
  pub renumber_accepted : (m w : List ℕ) (count : ℕ) → refine n m ≡ accepted w count
      → refine n (renumbered n π m) ≡ accepted (renumbered n π w) count
  renumber_accepted m w count e =
      read (refine n (renumbered n π m))
      (subst (λ (o : Ending (List ℕ)). Alike n π o (refine n (renumbered n π m))) e (refine_alike m))
    where
      read : (o : Ending (List ℕ)) → Alike n π (accepted w count) o → o ≡ accepted (renumbered n π w) count
      read (accepted v rounds) a = ap₂ accepted a.0 (sym a.1)
      read (refused numbers) a = absurd a

  -- and one that is refused is refused by the same number in the same round
  pub renumber_refused : (m : List ℕ) (numbers : Answer) → refine n m ≡ refused numbers
      → (others : Answer) × (refine n (renumbered n π m) ≡ refused others) × (others.number ≡ numbers.number)
      × (others.count ≡ numbers.count)
  renumber_refused m numbers e =
      read (refine n (renumbered n π m))
      (subst (λ (o : Ending (List ℕ)). Alike n π o (refine n (renumbered n π m))) e (refine_alike m))
    where
      read : (o : Ending (List ℕ)) → Alike n π (refused numbers) o
          → (others : Answer) × (o ≡ refused others) × (others.number ≡ numbers.number) × (others.count ≡ numbers.count)
      read (accepted v rounds) l = absurd l
      read (refused others) l = (others, refl, sym l.0, sym l.1)

-- renumbered and renumbered back, a matrix is what it was
pub renumbered-back : (n : ℕ) (π : Renumbering n) (m : List ℕ) → length m ≡ n * n → renumbered n (back π) (renumbered n π m) ≡ m
renumbered-back n π m l =
    let r : List ℕ = renumbered n π m in
    ext_cell n (renumbered n (back π) r) m (length-renumbered n (back π) r) l
    (λ i j hi hj. renumbered-cell n (back π) r i j hi hj ∙ cell-back n π m i j hi hj)
