-- A round on the planes of a matrix, through its live regions, is the round of the refinement: the planes that it makes, the first empty
-- cell, whether something changed, and the regions that are live afterwards.
use Prim.Native.Nat.{ℕ, zero, suc, ◌+◌, ◌*◌, ◌/◌, ◌%◌, ◌^◌, ◌<◌, ◌≤◌}
use mathlib.Core.Path.{◌≡◌, refl, sym, ap, ap₂, ◌∙◌, subst}
use mathlib.Core.Logic.{◌⊎◌, inl, inr}
use mathlib.Core.Bool.{Bool, true, false, cond, not, ◌&&◌, ◌||◌, true≢false}
use mathlib.Core.List.{List}
use native.Mathlib.Decide.{dec_lt}
use native.Mathlib.Nat.{le_refl}
use native.Mathlib.Omega.{arith}
use borrow.Author.Tests.{lt-ltb, le-ltb, eqb-true, eq-eqb, not-false}
use lib.Bits.{and_self}
use lib.Dec.{eqb, ltb, lit<}
use lib.ListN.{length, get_or}
use Rattle.lists.specs.Least.{least}
use Rattle.lists.proofs.Splits.{split_lt, by_test}
use Rattle.lists.proofs.LeastLaws.{least-is, least-here}
use Rattle.relation.specs.Sets.{has, universal, intersect}
use Rattle.relation.specs.Composition.{compose}
use Rattle.relation.proofs.Member.{ext}
use Rattle.relation.proofs.CompositionLaws.{compose_universal_right}
use Rattle.matrix.specs.Cells.{cell, row, column, first_empty, first_change}
use Rattle.lists.specs.Laid.{laid}
use Rattle.matrix.proofs.CellLaws.{grid-same, grid-cells, place_lt, place-back, row_lt, column_lt, place_above, none-empty, no_empty, no_change}
use Rattle.refinement.specs.Round.{round}
use Rattle.refinement.specs.Plain.{Bytes, Plain}
use Rattle.refinement.proofs.Stages.{round-bytes}
use Rattle.lanes.specs.Lists.{some}
use Rattle.lanes.proofs.Unions.{empty-has}
use Rattle.lanes.proofs.Sets.{has_mask, mask_below}
use Rattle.lanes.proofs.Shifts.{has_beyond}
use Rattle.lanes.proofs.Digits.{all_ones}
use Rattle.planes.specs.Planes.{lane, sets_of, lane_cell, matrix_planes, planes_matrix}
use Rattle.std.proofs.Common.{Result, Ok, Err}
use Rattle.round.specs.declared.rounds.Emptied.{Emptied}
use Rattle.round.specs.Round.{empty_lane, through_live, known, new_set, round_planes, changed_columns}
use Rattle.round.specs.Calls.{came_of, round_leaves}
use Rattle.planes.proofs.Blocks.{sets_at, length-sets, lane_planes, length_planes, planes_same}
use Rattle.round.proofs.LivePlaces.{live_none, live_more, live_skip, live_same}
use Rattle.round.proofs.Rounding.{known_one}
use Rattle.round.proofs.Turning.{emptied_at, laid_past}
use Rattle.round.proofs.Live.{ColumnKept, LiveRounds, visited-cell, live_next, kept_unchanged}

-- ---- the sets of a matrix' planes

module _ (n : ℕ) (m : List ℕ) (few : n ≤ 64) (B : Bytes n m) where
  lane_byte : (p : ℕ) → p < 64 * n → lane_cell 64 n m p < 256
  unfolding lane_cell
  lane_byte p h =
      split_lt (p % 64) n
      (λ l. subst (λ (x : ℕ). x < 256)
      (sym (ap₂ (λ (a b : Bool). cond (a && b) (cell n m (p / 64) (p % 64)) universal) (lt-ltb (p / 64) n (omega arith)) (lt-ltb (p % 64) n l)))
      (B.byte (p / 64) (p % 64) (omega arith) l))
      (λ l. subst (λ (x : ℕ). x < 256)
      (sym (ap₂ (λ (a b : Bool). cond (a && b) (cell n m (p / 64) (p % 64)) universal) (lt-ltb (p / 64) n (omega arith)) (le-ltb (p % 64) n l)))
      (lit< tt))

  sets-length : length (sets_of (matrix_planes n m)) ≡ 64 * n
  sets-length =
      let s = length-sets (matrix_planes n m) in
      let l = length_planes n (lane_cell 64 n m) in
      omega arith

  at_lane : (i j : ℕ) → i < n → j < 64 → cell 64 (sets_of (matrix_planes n m)) i j ≡ lane_cell 64 n m (i * 64 + j)
  at_lane i j hi hj =
      let l = length_planes n (lane_cell 64 n m) in
      sets_at (matrix_planes n m) (i * 64 + j) (omega arith)
      ∙ lane_planes n (lane_cell 64 n m) (i * 64 + j) (omega arith) (lane_byte (i * 64 + j) (omega arith))

  -- a lane that is a cell has its set, and one that is no cell the universal set
  lane_in : (i j : ℕ) → i < n → j < n → lane_cell 64 n m (i * 64 + j) ≡ cell n m i j
  unfolding lane_cell
  lane_in i j hi hj =
      let at : row 64 (i * 64 + j) ≡ i = omega arith in
      let in_row : column 64 (i * 64 + j) ≡ j = omega arith in
      ap₂ (λ (a b : ℕ). cond (ltb a n && ltb b n) (cell n m a b) universal) at in_row
      ∙ ap₂ (λ (a b : Bool). cond (a && b) (cell n m i j) universal) (lt-ltb i n hi) (lt-ltb j n hj)

  lane_past : (i j : ℕ) → i < n → n ≤ j → j < 64 → lane_cell 64 n m (i * 64 + j) ≡ universal
  unfolding lane_cell
  lane_past i j hi l hj =
      let at : row 64 (i * 64 + j) ≡ i = omega arith in
      let in_row : column 64 (i * 64 + j) ≡ j = omega arith in
      ap₂ (λ (a b : ℕ). cond (ltb a n && ltb b n) (cell n m a b) universal) at in_row
      ∙ ap₂ (λ (a b : Bool). cond (a && b) (cell n m i j) universal) (lt-ltb i n hi) (le-ltb j n l)

  pub set_in : (i j : ℕ) → i < n → j < n → cell 64 (sets_of (matrix_planes n m)) i j ≡ cell n m i j
  set_in i j hi hj = at_lane i j hi (omega arith) ∙ lane_in i j hi hj

  pub set_past : (i j : ℕ) → i < n → n ≤ j → j < 64 → cell 64 (sets_of (matrix_planes n m)) i j ≡ universal
  set_past i j hi l hj = at_lane i j hi hj ∙ lane_past i j hi l hj

-- the planes of a matrix hold it
pub planes_back : (n : ℕ) (m : List ℕ) → n ≤ 64 → Bytes n m → length m ≡ n * n → planes_matrix n (matrix_planes n m) ≡ m
planes_back n m few B size =
    grid-same n (λ i j. lane (matrix_planes n m) (i * 64 + j)) (cell n m)
    (λ i j hi hj.
    lane_planes n (lane_cell 64 n m) (i * 64 + j) (omega arith) (lane_byte n m few B (i * 64 + j) (omega arith)) ∙ lane_in n m few B i j hi hj)
    ∙ grid-cells n m size

-- ---- the first empty set

-- row order is the same in lanes and in cells
lane-order : (n i j a b : ℕ) → n ≤ 64 → j < n → b < n → a * n + b < i * n + j → a * 64 + b < i * 64 + j
lane-order n i j a b few hj hb h =
    split_lt a i (λ l. omega arith)
    (λ l. split_lt i a (λ u. absurd (omega (arith, place_above n i j a b u hj)))
    (λ u. let same : a ≡ i = omega arith in
    let here : a * n + b < a * n + j = subst (λ (x : ℕ). a * n + b < x * n + j) (sym same) h in omega arith))

module _ (n : ℕ) (m : List ℕ) (few : n ≤ 64) (B : Bytes n m) where
  pub empty-lane : empty_lane (sets_of (matrix_planes n m)) < 64 * n
      → (column 64 (empty_lane (sets_of (matrix_planes n m))) < n)
      × (row 64 (empty_lane (sets_of (matrix_planes n m))) * n + column 64 (empty_lane (sets_of (matrix_planes n m))) ≡ first_empty (n * n) m)
  unfolding first_empty
  empty-lane h =
      let all : List ℕ = sets_of (matrix_planes n m) in
      let size = sets-length n m few B in
      let test : ℕ → Bool = λ p. eqb (get_or all p 0) 0 in
      let L = least-is (length all) test in
      let p : ℕ = least (length all) test in
      let i : ℕ = p / 64 in
      let j : ℕ = p % 64 in
      let back : i * 64 + j ≡ p = omega arith in
      let gone : cell 64 all i j ≡ 0 =
      ap (λ (q : ℕ). get_or all q 0) back ∙ eqb-true (get_or all p 0) 0 (L.found (omega arith)) in
      let hi : i < n = omega arith in
      let hj : j < n = split_lt j n (λ l. l) (λ l. absurd (none (sym gone ∙ set_past n m few B i j hi l (omega arith)))) in (
        hj,
        least-here (n * n) (λ q. eqb (get_or m q 0) 0) (i * n + j) (place_lt n i j hi hj)
            (λ k l.
            let inside : k < n * n = omega (arith, place_lt n i j hi hj) in
            let a : ℕ = row n k in
            let b : ℕ = column n k in
            let ka = row_lt n k inside in
            let kb = column_lt n k inside in
            let place = place-back n k in
            ap (λ (q : ℕ). eqb (get_or m q 0) 0) (sym place)
            ∙ ap (λ (s : ℕ). eqb s 0) (sym (set_in n m few B a b ka kb))
            ∙ L.before (a * 64 + b) (subst (λ (q : ℕ). a * 64 + b < q) back (lane-order n i j a b few hj kb (omega arith))))
            (ap (λ (s : ℕ). eqb s 0) (sym (set_in n m few B i j hi hj) ∙ gone)),
      )
    where
      none : ◌≡◌ {A = ℕ} 0 universal → ⊥
      none e = omega arith

  pub no_empty_lane : 64 * n ≤ empty_lane (sets_of (matrix_planes n m)) → n * n ≤ first_empty (n * n) m
  unfolding first_empty
  no_empty_lane h =
      let all : List ℕ = sets_of (matrix_planes n m) in
      let size = sets-length n m few B in
      let L = least-is (length all) (λ p. eqb (get_or all p 0) 0) in
      none-empty n m (λ i j hi hj e.
      true≢false (sym (eq-eqb (cell 64 all i j) 0 (set_in n m few B i j hi hj ∙ e)) ∙ L.before (i * 64 + j) (omega arith)))

-- ---- the planes of the round

false_both : (a b c : Bool) → a && (not b && not c) ≡ false → (a ≡ false) ⊎ ((b ≡ true) ⊎ (c ≡ true))
false_both false b c e = inl refl
false_both true true c e = inr (inl refl)
false_both true false true e = inr (inr refl)
false_both true false false e = absurd (true≢false e)

module _ (n : ℕ) (m : List ℕ) (live : ℕ) (few : n ≤ 64) (L : LiveRounds n m (has live)) where
  visits : ℕ → ℕ → Bool
  visits i k = has live k && known 64 (sets_of (matrix_planes n m)) i k

  -- a lane that is a cell
  new_in : (i j : ℕ) → i < n → j < n → new_set 64 n live (sets_of (matrix_planes n m)) (i * 64 + j) ≡ cell n (round n m) i j
  unfolding new_set visits
  new_in i j hi hj =
      let old : List ℕ = sets_of (matrix_planes n m) in
      let B = L.plain.bytes in
      let at : row 64 (i * 64 + j) ≡ i = omega arith in
      let in_row : column 64 (i * 64 + j) ≡ j = omega arith in
      ap₂ (λ (a b : ℕ). through_live 64 old (visits a) a b n) at in_row
      ∙ live_same 64 n old m (visits i) (visits i) i j n (set_in n m few B i j hi hj) (λ k l. refl)
      (λ k l. set_in n m few B i k hi l) (λ k l. set_in n m few B k j l hj)
      ∙ visited-cell n m (has live) L (visits i) i j hi hj
      (λ k l e.
      elim (false_both (has live k) (eqb i k) (eqb (cell 64 old i k) universal)
      (ap (λ (b : Bool). has live k && b) (sym (known_one old i k)) ∙ e)) [
        | inl u ↦ inl u
        | inr v ↦ elim v [
          | inl u ↦ inr (inl (eqb-true i k u))
          | inr u ↦ inr (inr (sym (set_in n m few B i k hi l) ∙ eqb-true (cell 64 old i k) universal u))
        ]
      ])

  -- a lane that is none stays universal
  past : (i j : ℕ) → i < n → n ≤ j → j < 64 → (count : ℕ) → count ≤ n
      → through_live 64 (sets_of (matrix_planes n m)) (visits i) i j count ≡ universal
  past i j hi l hj zero h = live_none 64 _ (visits i) i j ∙ set_past n m few L.plain.bytes i j hi l hj
  past i j hi l hj (suc k) h =
      let B = L.plain.bytes in
      by_test (visits i k)
      (λ t.
      live_more 64 _ (visits i) i j k t
      ∙ ap₂ intersect (past i j hi l hj k (omega arith))
      (ap₂ compose (set_in n m few B i k hi h) (set_past n m few B k j h l hj)
      ∙ compose_universal_right (cell n m i k) (B.byte i k hi h) (L.plain.full.filled i k hi h))
      ∙ and_self universal)
      (λ t. live_skip 64 _ (visits i) i j k t ∙ past i j hi l hj k (omega arith))

  new_past : (i j : ℕ) → i < n → n ≤ j → j < 64 → new_set 64 n live (sets_of (matrix_planes n m)) (i * 64 + j) ≡ universal
  unfolding new_set visits
  new_past i j hi l hj =
      let at : row 64 (i * 64 + j) ≡ i = omega arith in
      let in_row : column 64 (i * 64 + j) ≡ j = omega arith in
      ap₂ (λ (a b : ℕ). through_live 64 (sets_of (matrix_planes n m)) (visits a) a b n) at in_row ∙ past i j hi l hj n (le_refl n)

  -- the round makes the planes of the refinement's round
  pub same_planes : round_planes n live (matrix_planes n m) ≡ matrix_planes n (round n m)
  same_planes =
      let R = round-bytes n m in
      planes_same n (new_set 64 n live (sets_of (matrix_planes n m))) (lane_cell 64 n (round n m)) (λ p h.
      let back : p / 64 * 64 + p % 64 ≡ p = omega arith in
      subst (λ (q : ℕ). new_set 64 n live (sets_of (matrix_planes n m)) q ≡ lane_cell 64 n (round n m) q) back
      (split_lt (p % 64) n
      (λ l. new_in (p / 64) (p % 64) (omega arith) l ∙ sym (lane_in n (round n m) few R (p / 64) (p % 64) (omega arith) l))
      (λ l. new_past (p / 64) (p % 64) (omega arith) l (omega arith)
      ∙ sym (lane_past n (round n m) few R (p / 64) (p % 64) (omega arith) l (omega arith)))))

-- ---- the columns that changed

some-none : (n : ℕ) (test : ℕ → Bool) → some n test ≡ false → (i : ℕ) → i < n → test i ≡ false
unfolding some
some-none zero test e i h = absurd (omega arith)
some-none (suc n) test e i h =
    let b = neither (some n test) (test n) e in
    split_lt i n (λ l. some-none n test b.0 i l) (λ l. let same : n ≡ i = omega arith in subst (λ (x : ℕ). test x ≡ false) same b.1)
  where
    neither : (a b : Bool) → a || b ≡ false → (a ≡ false) × (b ≡ false)
    neither true b e = absurd (true≢false e)
    neither false b e = (refl, e)

none-some : (n : ℕ) (test : ℕ → Bool) → ((i : ℕ) → i < n → test i ≡ false) → some n test ≡ false
unfolding some
none-some zero test h = refl
none-some (suc n) test h = ap₂ ◌||◌ (none-some n test (λ i l. h i (omega arith))) (h n (le_refl (suc n)))

columns_few : (new old : List ℕ) → changed_columns 64 new old < 2 ^ 64
unfolding changed_columns
columns_few new old = mask_below 64 _ 64 (le_refl 64)

module _ (n : ℕ) (new old : List ℕ) (few : n ≤ 64) (N : Bytes n new) (O : Bytes n old) where
  abbrev columns : ℕ
  columns = changed_columns 64 (sets_of (matrix_planes n new)) (sets_of (matrix_planes n old))

  has_changed : (k : ℕ) → k < 64
      → has columns k ≡ some n (λ i. not (eqb (cell 64 (sets_of (matrix_planes n new)) i k) (cell 64 (sets_of (matrix_planes n old)) i k)))
  unfolding changed_columns
  has_changed k h =
      let size = sets-length n old few O in
      let rows : length (sets_of (matrix_planes n old)) / 64 ≡ n = omega arith in
      has_mask 64 _ k h
      ∙ ap (λ (c : ℕ). some c (λ i. not (eqb (cell 64 (sets_of (matrix_planes n new)) i k) (cell 64 (sets_of (matrix_planes n old)) i k)))) rows

  -- a column that is not among them was kept
  pub unchanged_column : (k : ℕ) → k < n → has columns k ≡ false → ColumnKept n new old k
  unchanged_column k h e = record {
    same = λ i hi.
        let a = cell 64 (sets_of (matrix_planes n new)) i k in
        let b = cell 64 (sets_of (matrix_planes n old)) i k in
        sym (set_in n new few N i k hi h)
        ∙ eqb-true a b (not-false (eqb a b) (some-none n _ (sym (has_changed k (omega arith)) ∙ e) i hi))
        ∙ set_in n old few O i k hi h;
  }

  pub no_columns : columns ≡ 0 → n * n ≤ first_change (n * n) new old
  no_columns e = kept_unchanged n new old (λ k h. unchanged_column k h (ap (λ (x : ℕ). has x k) e ∙ empty-has k))

  pub nothing_changed : n * n ≤ first_change (n * n) new old → columns ≡ 0
  nothing_changed h = ext columns 0 (λ k. go k (dec_lt k 64) ∙ sym (empty-has k))
    where
      alike : (k i : ℕ) → k < 64 → i < n → cell 64 (sets_of (matrix_planes n new)) i k ≡ cell 64 (sets_of (matrix_planes n old)) i k
      alike k i l hi =
          split_lt k n
          (λ u. set_in n new few N i k hi u ∙ no_change n new old h i k hi u ∙ sym (set_in n old few O i k hi u))
          (λ u. set_past n new few N i k hi u l ∙ sym (set_past n old few O i k hi u l))

      go : (k : ℕ) → Dec (k < 64) → has columns k ≡ false
      go k (yes l) =
          has_changed k l
          ∙ none-some n _ (λ i hi. ap not (eq-eqb (cell 64 (sets_of (matrix_planes n new)) i k) (cell 64 (sets_of (matrix_planes n old)) i k) (alike k i l hi)))
      go k (no l) = has_beyond columns 64 k (columns_few (sets_of (matrix_planes n new)) (sets_of (matrix_planes n old))) (omega arith)

-- ---- what a round on planes comes to

-- there is the first empty cell
pub record FirstEmpty (n : ℕ) (m : List ℕ) (at : Emptied) : Type 0 where
  pub row_lt : at.row < n
  pub column_lt : at.column < n
  pub first-empty : at.row * n + at.column ≡ first_empty (n * n) m

-- no cell is empty, the new area holds the round, the columns that changed are live, and none means that nothing changed
pub record NoneEmpty (n live : ℕ) (m : List ℕ) (columns : ℕ) : Type 0 where
  pub none-empty : n * n ≤ first_empty (n * n) (round n m)
  pub left : (new : List ℕ) → length new ≡ 8 * n → round_leaves n live (matrix_planes n m) new ≡ matrix_planes n (round n m)
  pub next : LiveRounds n (round n m) (has columns)
  pub unchanged : columns ≡ 0 → n * n ≤ first_change (n * n) (round n m) m
  pub changed : (columns ≡ 0 → ⊥) → first_change (n * n) (round n m) m < n * n

-- what the answer says of the round
abbrev pub Says : ℕ → ℕ → List ℕ → Result ℕ Emptied → Type 0
Says n live m (Ok columns) = NoneEmpty n live m columns
Says n live m (Err at) = FirstEmpty n (round n m) at

pub record SameRound (n live : ℕ) (m : List ℕ) : Type 0 where
  -- the planes that it makes
  pub planes : round_planes n live (matrix_planes n m) ≡ matrix_planes n (round n m)
  pub says : Says n live m (came_of n live (matrix_planes n m))

module _ (n : ℕ) (m : List ℕ) (live : ℕ) (few : n ≤ 64) (L : LiveRounds n m (has live)) where
  abbrev new : List ℕ
  new = sets_of (matrix_planes n (round n m))

  abbrev place : ℕ
  place = empty_lane new

  within : place ≤ 64 * n
  unfolding first_empty
  within =
      let size = sets-length n (round n m) few (round-bytes n m) in
      let least-within = (least-is (length new) (λ p. eqb (get_or new p 0) 0)).within in
      omega arith

  columns_now : ℕ
  columns_now = changed_columns 64 new (sets_of (matrix_planes n m))

  came_is : came_of n live (matrix_planes n m) ≡ cond (ltb place (length new)) (emptied_at place) (Ok columns_now)
  unfolding came_of columns_now
  came_is =
      ap (λ (p : List ℕ). cond (ltb (empty_lane (sets_of p)) (length (sets_of p))) (emptied_at (empty_lane (sets_of p)))
      (Ok (changed_columns 64 (sets_of p) (sets_of (matrix_planes n m)))))
      (same_planes n m live few L)

  emptied : place < 64 * n → Says n live m (came_of n live (matrix_planes n m))
  emptied h =
      let size = sets-length n (round n m) few (round-bytes n m) in
      let e = empty-lane n (round n m) few (round-bytes n m) h in
      subst (Says n live m)
      (sym (came_is ∙ ap (λ (b : Bool). cond b (emptied_at place) (Ok columns_now)) (lt-ltb place (length new) (omega arith))))
      (record { row_lt = omega arith; column_lt = e.0; first-empty = e.1 })

  full : 64 * n ≤ place → Says n live m (came_of n live (matrix_planes n m))
  unfolding round_leaves columns_now
  full h =
      let R = round-bytes n m in
      let O = L.plain.bytes in
      let size = sets-length n (round n m) few R in
      subst (Says n live m)
      (sym (came_is ∙ ap (λ (b : Bool). cond b (emptied_at place) (Ok columns_now)) (le-ltb place (length new) (omega arith))))
      (record {
        none-empty = no_empty_lane n (round n m) few R h;
        left = λ area l.
            let long = length_planes n (lane_cell 64 n (round n m)) in
            ap (λ (p : List ℕ). laid (8 * (empty_lane (sets_of p) / 64 + 1)) p area) (same_planes n m live few L)
            ∙ laid_past (8 * (place / 64 + 1)) (matrix_planes n (round n m)) area (omega arith) (omega arith);
        next = live_next n m (has live) L
            (record { filled = λ i j hi hj e. no_empty n (round n m) (no_empty_lane n (round n m) few R h) i j hi hj e })
            (has columns_now)
            (λ k l e. unchanged_column n (round n m) m few R O k l e);
        unchanged = no_columns n (round n m) m few R O;
        changed = λ e. split_lt (first_change (n * n) (round n m) m) (n * n) (λ l. l)
            (λ l. absurd (e (nothing_changed n (round n m) m few R O l)));
      })

  pub same-round : SameRound n live m
  same-round = record {
    planes = same_planes n m live few L;
    says = split_lt place (64 * n) emptied full;
  }

-- at the start every region is live
pub all_live : (n : ℕ) (m : List ℕ) → n ≤ 64 → Plain n m → LiveRounds n m (has 18446744073709551615)
all_live n m few P = record { plain = P; settled = λ k h e. absurd (true≢false (sym (all_ones k (omega arith)) ∙ e)) }
