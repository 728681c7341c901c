-- What a step finds: from its searches to its answer, and from its answer to the cells and back.
use mathlib.Core.Path.{◌≡◌, refl, sym, ◌∙◌}
use mathlib.Core.List.{List}
use Prim.Native.Nat.{ℕ, ◌*◌, ◌≤◌, ◌<◌}
use borrow.Author.Tests.{lt-ltb, le-ltb, le-leb, lt-leb}
use Rattle.lists.proofs.Splits.{split_lt}
use Rattle.region.specs.Lookup.{place}
use Rattle.region.specs.declared.Place.{Place}
use Rattle.relation.specs.Sets.{empty}
use Rattle.matrix.specs.Cells.{cell, row, column, first_empty, first_change}
use Rattle.matrix.proofs.CellLaws.{Change, row_lt, column_lt, empty_at, no_empty, none-empty, no_change, some_change, none_changed}
use Rattle.refinement.specs.declared.Step.{Step}
use Rattle.refinement.specs.declared.Step.TheVariants.{Empty, Same, Changed}
use Rattle.refinement.specs.Round.{through, round, ran_out}
use Rattle.refinement.specs.Step.{step_of}
use Rattle.refinement.specs.Plain.{Filled}
use Rattle.refinement.proofs.Stages.{round-cell}

-- ---- from the searches

module _ (n : ℕ) (old : List ℕ) where
  pub step_empty : (p : ℕ) → p ≡ first_empty (n * n) (round n old) → p < n * n
      → step_of n old ≡ Empty (place (row n p)) (place (ran_out n old (row n p) (column n p))) (place (column n p))
  unfolding step_of
  step_empty p e h = rw (← e, lt-ltb p (n * n) h)

  module _ (h : n * n ≤ first_empty (n * n) (round n old)) where
    pub step_same : n * n ≤ first_change (n * n) (round n old) old → step_of n old ≡ Same
    unfolding step_of
    step_same l =
        rw (
          le-ltb (first_empty (n * n) (round n old)) (n * n) h,
          le-leb (n * n) (first_change (n * n) (round n old) old) l,
        )

    pub step_changed : first_change (n * n) (round n old) old < n * n → step_of n old ≡ Changed
    unfolding step_of
    step_changed l =
        rw (
          le-ltb (first_empty (n * n) (round n old)) (n * n) h,
          lt-leb (n * n) (first_change (n * n) (round n old) old) l,
        )

-- ---- to the cells and back

-- the compositions through all places leave (i, j) nothing
pub record RunsEmpty (n : ℕ) (old : List ℕ) (i j : ℕ) : Type 0 where
  pub first : i < n
  pub last : j < n
  pub empties : through n old i j n ≡ empty

-- no cell runs empty, and none changes
pub record Rests (n : ℕ) (old : List ℕ) : Type 0 where
  pub full : Filled n (round n old)
  pub same : (i j : ℕ) → i < n → j < n → cell n (round n old) i j ≡ cell n old i j

-- no cell runs empty, and one changes
pub record Moves (n : ℕ) (old : List ℕ) : Type 0 where
  pub full : Filled n (round n old)
  pub change : Change n (round n old) old

-- whatever holds in each of the three cases holds of what a round comes to
pub by_step : (P : Step → Type 0) (n : ℕ) (old : List ℕ)
    → ((i j : ℕ) → RunsEmpty n old i j → P (Empty (place i) (place (ran_out n old i j)) (place j)))
    → (Rests n old → P Same) → (Moves n old → P Changed) → P (step_of n old)
by_step P n old runs-empty rests moves =
    let new : List ℕ = round n old in
    let p : ℕ = first_empty (n * n) new in
    let q : ℕ = first_change (n * n) new old in
    split_lt p (n * n)
    (λ h.
    let first : row n p < n = row_lt n p h in
    let last : column n p < n = column_lt n p h in
    rw (step_empty n old p refl h)
    (runs-empty (row n p) (column n p)
    (record { first = first; last = last; empties = sym (round-cell n old (row n p) (column n p) first last) ∙ empty_at n new h })))
    (λ h.
    let full : Filled n new = record { filled = no_empty n new h } in
    split_lt q (n * n)
    (λ l. rw (step_changed n old h l) (moves (record { full = full; change = some_change n new old l })))
    (λ l. rw (step_same n old h l) (rests (record { full = full; same = no_change n new old l }))))

-- a step that runs empty somewhere
pub record EmptyStep (n : ℕ) (old : List ℕ) : Type 0 where
  pub first : Place
  pub middle : Place
  pub last : Place
  pub is : step_of n old ≡ Empty first middle last

module _ {n : ℕ} {old : List ℕ} where
  pub runs_empty_step : {i j : ℕ} → RunsEmpty n old i j → EmptyStep n old
  runs_empty_step {i} {j} e =
      let p : ℕ = first_empty (n * n) (round n old) in
      split_lt p (n * n)
      (λ h. record { first = _; middle = _; last = _; is = step_empty n old p refl h })
      (λ h. absurd (no_empty n (round n old) h i j e.first e.last (round-cell n old i j e.first e.last ∙ e.empties)))

  pub rests_step : Rests n old → step_of n old ≡ Same
  rests_step r =
      step_same n old (none-empty n (round n old) r.full.filled) (none_changed n (round n old) old r.same)

  pub moves_step : Moves n old → step_of n old ≡ Changed
  moves_step m =
      let c : Change n (round n old) old = m.change in
      step_changed n old (none-empty n (round n old) m.full.filled)
      (split_lt (first_change (n * n) (round n old) old) (n * n) (λ l. l)
      (λ l. absurd (c.differs (no_change n (round n old) old l c.first c.second c.first_lt c.second_lt))))
