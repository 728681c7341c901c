-- What preparing finds: from its searches to its answer, from its answer to the cells, and on to the whole refinement.
use mathlib.Core.Path.{◌≡◌, refl, sym}
use mathlib.Core.List.{List}
use Prim.Native.Nat.{ℕ, ◌+◌, ◌*◌, ◌≤◌, ◌<◌}
use native.Mathlib.Omega.{arith}
use borrow.Author.Tests.{lt-ltb, le-ltb}
use Rattle.std.specs.Prelude.{Ok, Err}
use Rattle.answer.specs.Answer.{answer}
use Rattle.answer.specs.Ending.{refused}
use Rattle.lists.proofs.Splits.{split_lt}
use Rattle.region.specs.Lookup.{place}
use Rattle.region.specs.declared.Place.{Place}
use Rattle.relation.specs.Sets.{empty}
use Rattle.matrix.specs.Cells.{cell, row, column, first_empty}
use Rattle.matrix.proofs.CellLaws.{row_lt, column_lt, place-back, empty_at, empty-first, no_empty}
use Rattle.refinement.specs.declared.Contradiction.TheVariants.{Region, Pair}
use Rattle.refinement.specs.Node.{node, empty_region}
use Rattle.refinement.specs.Prepare.{Preparation, prepared, preparation}
use Rattle.refinement.specs.Refine.{refine, all_rounds, started}
use Rattle.refinement.proofs.Stages.{region_empty, no_region_empty}

-- ---- from the searches

module _ (n : ℕ) (m : List ℕ) where
  pub preparation_region : (i : ℕ) → i ≡ empty_region n (node n m) → i < n → preparation n m ≡ Err (Region (place i))
  unfolding preparation
  preparation_region i e h = rw (← e, lt-ltb i n h)

  pub preparation_pair : n ≤ empty_region n (node n m) → (p : ℕ) → p ≡ first_empty (n * n) (prepared n m) → p < n * n
      → preparation n m ≡ Err (Pair (place (row n p)) (place (column n p)))
  unfolding preparation
  preparation_pair l p e h = rw (le-ltb (empty_region n (node n m)) n l, ← e, lt-ltb p (n * n) h)

  pub preparation_ready : n ≤ empty_region n (node n m) → n * n ≤ first_empty (n * n) (prepared n m) → preparation n m ≡ Ok tt
  unfolding preparation
  preparation_ready l h =
      rw (le-ltb (empty_region n (node n m)) n l, le-ltb (first_empty (n * n) (prepared n m)) (n * n) h)

-- ---- to the cells

-- the node rule left a region empty
pub record RegionEmpty (n : ℕ) (m : List ℕ) (i : ℕ) : Type 0 where
  pub inside : i < n
  pub empties : cell n (node n m) i i ≡ empty

-- it left none, and the arc rule left a pair empty, the first in row order
pub record PairEmpty (n : ℕ) (m : List ℕ) (i j : ℕ) : Type 0 where
  pub regions : n ≤ empty_region n (node n m)
  pub first : i < n
  pub second : j < n
  pub empties : cell n (prepared n m) i j ≡ empty
  pub before : (k l : ℕ) → k * n + l < i * n + j → cell n (prepared n m) k l ≡ empty → ⊥

-- they left nothing empty
pub record NoneEmpty (n : ℕ) (m : List ℕ) : Type 0 where
  pub regions : n ≤ empty_region n (node n m)
  pub cells : n * n ≤ first_empty (n * n) (prepared n m)

-- whatever holds in each of the three cases holds of what preparing comes to
pub by_preparation : (P : Preparation → Type 0) (n : ℕ) (m : List ℕ) → ((i : ℕ) → RegionEmpty n m i → P (Err (Region (place i))))
    → ((i j : ℕ) → PairEmpty n m i j → P (Err (Pair (place i) (place j)))) → (NoneEmpty n m → P (Ok tt)) → P (preparation n m)
by_preparation P n m region pair ready =
    let i : ℕ = empty_region n (node n m) in
    let p : ℕ = first_empty (n * n) (prepared n m) in
    split_lt i n
    (λ h. rw (preparation_region n m i refl h) (region i (record { inside = h; empties = region_empty n (node n m) h })))
    (λ l. split_lt p (n * n)
    (λ h. rw (preparation_pair n m l p refl h)
    (pair (row n p) (column n p)
    (record {
      regions = l;
      first = row_lt n p h;
      second = column_lt n p h;
      empties = empty_at n (prepared n m) h;
      before = λ k r u. empty-first n (prepared n m) k r (omega (arith, place-back n p));
    })))
    (λ h. rw (preparation_ready n m l h) (ready (record { regions = l; cells = h }))))

-- ready means that nothing is empty
pub ready_none_empty : (n : ℕ) (m : List ℕ) → preparation n m ≡ Ok tt → NoneEmpty n m
ready_none_empty n m =
    by_preparation (λ (answer : Preparation). answer ≡ Ok tt → NoneEmpty n m) n m
    (λ i e q. cc)
    (λ i j e q. cc)
    (λ e q. e)

-- and back: an empty region or pair anywhere is enough
pub record AtSomeRegion (n : ℕ) (m : List ℕ) : Type 0 where
  pub region : Place
  pub is : preparation n m ≡ Err (Region region)

pub record AtSomePair (n : ℕ) (m : List ℕ) : Type 0 where
  pub first : Place
  pub second : Place
  pub is : preparation n m ≡ Err (Pair first second)

pub some_region : {n : ℕ} (m : List ℕ) {i : ℕ} → i < n → cell n (node n m) i i ≡ empty → AtSomeRegion n m
some_region {n} m {i} h e =
    split_lt (empty_region n (node n m)) n
    (λ l. record { region = _; is = preparation_region n m (empty_region n (node n m)) refl l })
    (λ l. absurd (no_region_empty n (node n m) l i h e))

pub some_pair : {n : ℕ} (m : List ℕ) {i j : ℕ} → n ≤ empty_region n (node n m) → i < n → j < n
    → cell n (prepared n m) i j ≡ empty → AtSomePair n m
some_pair {n} m {i} {j} l hi hj e =
    let p : ℕ = first_empty (n * n) (prepared n m) in
    split_lt p (n * n)
    (λ h. record { first = _; second = _; is = preparation_pair n m l p refl h })
    (λ h. absurd (no_empty n (prepared n m) h i j hi hj e))

-- ---- to the refinement

-- what preparing comes to decides, and where it is ready the rounds do
pub refine_by : (n : ℕ) (m : List ℕ) {answer : Preparation} → answer ≡ preparation n m
    → refine n m ≡ started answer (λ _. all_rounds n (prepared n m))
unfolding refine
refine_by n m e = rw (← e)

module _ (n : ℕ) (m : List ℕ) where
  pub refine_region : (i : ℕ) → i ≡ empty_region n (node n m) → i < n → refine n m ≡ refused (answer 21 i 0 0 0)
  refine_region i e h = refine_by n m (sym (preparation_region n m i e h))

  pub refine_pair : n ≤ empty_region n (node n m) → (p : ℕ) → p ≡ first_empty (n * n) (prepared n m) → p < n * n
      → refine n m ≡ refused (answer 22 (row n p) (column n p) 0 0)
  refine_pair l p e h = refine_by n m (sym (preparation_pair n m l p e h))

  pub refine-rounds : n ≤ empty_region n (node n m) → n * n ≤ first_empty (n * n) (prepared n m)
      → refine n m ≡ all_rounds n (prepared n m)
  refine-rounds l h = refine_by n m (sym (preparation_ready n m l h))
