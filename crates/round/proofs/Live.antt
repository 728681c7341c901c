-- Rounds through the live regions only: what the invariant is, that such a round is the plain one, and that a round keeps it.
use mathlib.Core.Path.{◌≡◌, refl, sym, ap, ap₂, ◌∙◌, subst}
use mathlib.Core.Logic.{◌⊎◌, inl, ⊎_elim}
use mathlib.Core.Bool.{Bool, true, false, cond, not, true≢false}
use mathlib.Core.List.{List}
use Prim.Native.Nat.{ℕ, zero, suc, ◌*◌, ◌≤◌, ◌<◌}
use native.Mathlib.Omega.{arith}
use borrow.Author.Tests.{eqb-true, eqb-false, ltb-true, ltb-false, not-true, not-false}
use lib.Dec.{eqb, ltb}
use lib.ListN.{length}
use Rattle.lists.specs.Least.{least}
use Rattle.lists.proofs.Splits.{by_test, split_lt}
use Rattle.lists.proofs.LeastLaws.{least-is}
use Rattle.relation.specs.Sets.{Within, universal, intersect}
use Rattle.relation.specs.Converse.{converse}
use Rattle.relation.specs.Composition.{compose}
use Rattle.relation.proofs.Within.{intersect_comm, within_refl, within_of_eq, within_trans, within_antisym, within_left, within-right, within_both, byte_within_universal}
use Rattle.relation.proofs.CompositionLaws.{equal-compose, compose_universal_left, compose_universal_right}
use Rattle.matrix.specs.Cells.{cell, grid, first_change}
use Rattle.matrix.proofs.CellLaws.{length-grid, cell-grid, ext_cell, no_change, none_changed}
use Rattle.refinement.specs.Round.{through, round}
use Rattle.round.specs.Round.{through_live}
use Rattle.refinement.specs.Plain.{Filled, Plain}
use Rattle.refinement.proofs.Stages.{length-round, round-cell, through-within, through-largest, round-below, round-plain}

-- ---- starting from the old cell

-- going through region i itself gives (i, j) back, so the old cell may be the start instead of the universal set
pub through_from_old : (n : ℕ) (m : List ℕ) → Plain n m → (i j : ℕ) → i < n → j < n → Within (through n m i j n) (cell n m i j)
through_from_old n m P i j hi hj =
    subst (λ (x : ℕ). Within x (cell n m i j)) (round-cell n m i j hi hj) ((round-below n m P).cells i j hi hj)

pub through_with_old : (n : ℕ) (m : List ℕ) → Plain n m → (i j : ℕ) → i < n → j < n
    → through n m i j n ≡ intersect (cell n m i j) (through n m i j n)
through_with_old n m P i j hi hj =
    sym (through_from_old n m P i j hi hj).meets ∙ intersect_comm (through n m i j n) (cell n m i j)

-- ---- settled regions

-- going through k takes nothing from (i, j)
abbrev pub Idle : ℕ → List ℕ → ℕ → ℕ → ℕ → Type 0
Idle n m i j k = Within (cell n m i j) (compose (cell n m i k) (cell n m k j))

-- nor from any cell
pub record Settled (n : ℕ) (m : List ℕ) (k : ℕ) : Type 0 where
  pub idle : (i j : ℕ) → i < n → j < n → Idle n m i j k

-- one place: within what was, within the composition if it is live, and the largest such
step_within : (b : Bool) (t c : ℕ) → Within (cond b (intersect t c) t) t
step_within true t c = within_left t c
step_within false t c = within_refl t

step_live : (b : Bool) (t c : ℕ) → b ≡ true → Within (cond b (intersect t c) t) c
step_live b t c e = rw e (within-right t c)

step_largest : (b : Bool) (t c : ℕ) {s : ℕ} → Within s t → (b ≡ true → Within s c) → Within s (cond b (intersect t c) t)
step_largest true t c p q = within_both p (q refl)
step_largest false t c p q = p

module _ (n : ℕ) (m : List ℕ) (live : ℕ → Bool) (i j : ℕ) where
  -- it is within the old cell and each live composition, and whatever is within all of them is within it
  pub live_within_old : (count : ℕ) → Within (through_live n m live i j count) (cell n m i j)
  unfolding through_live
  live_within_old zero = within_refl (cell n m i j)
  live_within_old (suc k) =
      within_trans (step_within (live k) (through_live n m live i j k) (compose (cell n m i k) (cell n m k j))) (live_within_old k)

  pub live_within : (count k : ℕ) → k < count → live k ≡ true
      → Within (through_live n m live i j count) (compose (cell n m i k) (cell n m k j))
  unfolding through_live
  live_within zero k h e = absurd (omega arith)
  live_within (suc count) k h e =
      let t : ℕ = through_live n m live i j count in
      let c : ℕ = compose (cell n m i count) (cell n m count j) in
      split_lt k count
      (λ l. within_trans (step_within (live count) t c) (live_within count k l e))
      (λ l. let q : count ≡ k = omega arith in
      subst (λ (x : ℕ). Within (through_live n m live i j (suc count)) (compose (cell n m i x) (cell n m x j))) q
      (step_live (live count) t c (ap live q ∙ e)))

  pub live_largest : (count s : ℕ) → Within s (cell n m i j)
      → ((k : ℕ) → k < count → live k ≡ true → Within s (compose (cell n m i k) (cell n m k j)))
      → Within s (through_live n m live i j count)
  unfolding through_live
  live_largest zero s h f = h
  live_largest (suc k) s h f =
      step_largest (live k) (through_live n m live i j k) (compose (cell n m i k) (cell n m k j))
      (live_largest k s h (λ l u e. f l (omega arith) e)) (λ e. f k (omega arith) e)

  -- places that take nothing from the cell may be left out
  pub live_through : Plain n m → i < n → j < n → ((k : ℕ) → k < n → live k ≡ false → Idle n m i j k)
      → through_live n m live i j n ≡ through n m i j n
  live_through P hi hj idle =
      let old : Within (through_live n m live i j n) (cell n m i j) = live_within_old n in
      within_antisym
      (through-largest n m i j n (through_live n m live i j n)
      (within_trans old (byte_within_universal (cell n m i j) (P.bytes.byte i j hi hj)))
      (λ k h. by_test (live k) (λ e. live_within n k h e) (λ e. within_trans old (idle k h e))))
      (live_largest n (through n m i j n) (through_from_old n m P i j hi hj) (λ k h e. through-within n m i j n k h))

-- ---- regions about which nothing is known

module _ (n : ℕ) (m : List ℕ) (P : Plain n m) (i j k : ℕ) (hi : i < n) (hj : j < n) (hk : k < n) where
  idle_universal : compose (cell n m i k) (cell n m k j) ≡ universal → Idle n m i j k
  idle_universal e = rw e (byte_within_universal (cell n m i j) (P.bytes.byte i j hi hj))

  -- where (i, k) is universal nothing is learnt through k, since no cell is empty; likewise where (k, j) is
  pub idle_unknown : cell n m i k ≡ universal → Idle n m i j k
  idle_unknown e =
      idle_universal (ap (λ (x : ℕ). compose x (cell n m k j)) e
      ∙ compose_universal_left (cell n m k j) (P.bytes.byte k j hk hj) (P.full.filled k j hk hj))

  pub idle_unknown_right : cell n m k j ≡ universal → Idle n m i j k
  idle_unknown_right e =
      idle_universal (ap (compose (cell n m i k)) e
      ∙ compose_universal_right (cell n m i k) (P.bytes.byte i k hi hk) (P.full.filled i k hi hk))

-- going through region i itself takes nothing from row i
pub idle_self : (n : ℕ) (m : List ℕ) → Plain n m → (i j : ℕ) → i < n → j < n → Idle n m i j i
idle_self n m P i j hi hj =
    within_of_eq (sym (ap (λ (x : ℕ). compose x (cell n m i j)) (P.diagonal i hi) ∙ equal-compose (cell n m i j) (P.bytes.byte i j hi hj)))

-- ---- columns that a round left as they were

-- column k is the same in both matrices
pub record ColumnKept (n : ℕ) (new old : List ℕ) (k : ℕ) : Type 0 where
  pub same : (i : ℕ) → i < n → cell n new i k ≡ cell n old i k

-- the row is then the same too, since opposite cells are converse
pub row_kept : (n : ℕ) (new old : List ℕ) (k : ℕ) → k < n → Plain n new → Plain n old → ColumnKept n new old k
    → (j : ℕ) → j < n → cell n new k j ≡ cell n old k j
row_kept n new old k hk N O K j hj =
    N.opposite k j hk hj ∙ ap converse (K.same j hj) ∙ sym (O.opposite k j hk hj)

-- a region whose column a round left as it was is settled after it
pub kept_settled : (n : ℕ) (m : List ℕ) (k : ℕ) → k < n → Plain n m → Plain n (round n m) → ColumnKept n (round n m) m k
    → Settled n (round n m) k
kept_settled n m k hk P Q K = record {
  idle = λ i j hi hj.
      subst (Within (cell n (round n m) i j))
      (sym (ap₂ compose (K.same i hi) (row_kept n (round n m) m k hk Q P K j hj)))
      (rw (round-cell n m i j hi hj) (through-within n m i j n k hk));
}

-- no column changed exactly if no cell did
pub kept_unchanged : (n : ℕ) (new old : List ℕ) → ((k : ℕ) → k < n → ColumnKept n new old k) → n * n ≤ first_change (n * n) new old
kept_unchanged n new old K = none_changed n new old (λ i j hi hj. (K j hj).same i hi)

pub unchanged_kept : (n : ℕ) (new old : List ℕ) → n * n ≤ first_change (n * n) new old → (k : ℕ) → k < n → ColumnKept n new old k
unchanged_kept n new old h k hk = record { same = λ i hi. no_change n new old h i k hi hk }

-- a column that changed has a first change
pub unkept_changed : (n : ℕ) (new old : List ℕ) (k : ℕ) → k < n → (ColumnKept n new old k → ⊥) → first_change (n * n) new old < n * n
unkept_changed n new old k hk d =
    split_lt (first_change (n * n) new old) (n * n) (λ l. l) (λ l. absurd (d (unchanged_kept n new old l k hk)))

-- where no column changed, the round gives back what it was made from, and the other way round
pub kept_fixed : (n : ℕ) (m : List ℕ) → length m ≡ n * n → ((k : ℕ) → k < n → ColumnKept n (round n m) m k) → round n m ≡ m
kept_fixed n m l K = ext_cell n (round n m) m (length-round n m) l (λ i j hi hj. (K j hj).same i hi)

pub fixed_kept : (n : ℕ) (m : List ℕ) → round n m ≡ m → (k : ℕ) → ColumnKept n (round n m) m k
fixed_kept n m e k = record { same = λ i hi. ap (λ (a : List ℕ). cell n a i k) e }

-- the columns that changed, as a test
unfoldable pub changed : ℕ → List ℕ → List ℕ → ℕ → Bool
changed n new old k = ltb (least n (λ i. not (eqb (cell n new i k) (cell n old i k)))) n

pub changed_not : (n : ℕ) (new old : List ℕ) (k : ℕ) → changed n new old k ≡ false → ColumnKept n new old k
unfolding changed
changed_not n new old k e =
    let test : ℕ → Bool = λ i. not (eqb (cell n new i k) (cell n old i k)) in
    let l : n ≤ least n test = ltb-false (least n test) n e in
    record {
      same = λ i hi. eqb-true (cell n new i k) (cell n old i k)
          (not-false (eqb (cell n new i k) (cell n old i k)) ((least-is n test).before i (omega arith)));
    }

pub changed_is : (n : ℕ) (new old : List ℕ) (k : ℕ) → changed n new old k ≡ true → ColumnKept n new old k → ⊥
unfolding changed
changed_is n new old k e K =
    let test : ℕ → Bool = λ i. not (eqb (cell n new i k) (cell n old i k)) in
    let i : ℕ = least n test in
    let l : i < n = ltb-true i n e in
    eqb-false (cell n new i k) (cell n old i k)
    (not-true (eqb (cell n new i k) (cell n old i k)) ((least-is n test).found l)) (K.same i l)

-- ---- what a loop over such rounds keeps

-- what every round starts from, and every region that is not live is settled
pub record LiveRounds (n : ℕ) (m : List ℕ) (live : ℕ → Bool) : Type 0 where
  pub plain : Plain n m
  pub settled : (k : ℕ) → k < n → live k ≡ false → Settled n m k

-- at the start all are live
pub live_start : (n : ℕ) (m : List ℕ) → Plain n m → LiveRounds n m (λ k. true)
live_start n m P = record { plain = P; settled = λ k h e. absurd (true≢false e) }

-- the live regions may be more than need be
pub live_wider : {n : ℕ} {m : List ℕ} {live : ℕ → Bool} (wider : ℕ → Bool)
    → ((k : ℕ) → k < n → wider k ≡ false → live k ≡ false) → LiveRounds n m live → LiveRounds n m wider
live_wider wider f L = record { plain = L.plain; settled = λ k h e. L.settled k h (f k h e) }

module _ (n : ℕ) (m : List ℕ) (live : ℕ → Bool) (L : LiveRounds n m live) where
  -- a cell of the round, from the old cell and the regions visited: a region is left out only if it is not live, or is i itself, or if
  -- nothing is known of it from row i. `visited` may differ from row to row, or from block of rows to block
  pub visited-cell : (visited : ℕ → Bool) (i j : ℕ) → i < n → j < n
      → ((k : ℕ) → k < n → visited k ≡ false → (live k ≡ false) ⊎ ((i ≡ k) ⊎ (cell n m i k ≡ universal)))
      → through_live n m visited i j n ≡ cell n (round n m) i j
  visited-cell visited i j hi hj f =
      live_through n m visited i j L.plain hi hj
      (λ k h e. ⊎_elim (λ u. (L.settled k h u).idle i j hi hj)
      (⊎_elim (λ u. subst (λ (x : ℕ). Idle n m i j x) u (idle_self n m L.plain i j hi hj))
      (λ u. idle_unknown n m L.plain i j k hi hj h u)) (f k h e))
      ∙ sym (round-cell n m i j hi hj)

  pub live_cell : (i j : ℕ) → i < n → j < n → through_live n m live i j n ≡ cell n (round n m) i j
  live_cell i j hi hj = visited-cell live i j hi hj (λ k h e. inl e)

  -- the round over the live regions is the round
  pub live_round : grid n (λ i j. through_live n m live i j n) ≡ round n m
  live_round = grid-is (λ i j. through_live n m live i j n) live_cell
    where
      grid-is : (f : ℕ → ℕ → ℕ) → ((i j : ℕ) → i < n → j < n → f i j ≡ cell n (round n m) i j) → grid n f ≡ round n m
      grid-is f h =
          ext_cell n (grid n f) (round n m) (length-grid n f) (length-round n m)
          (λ i j hi hj. cell-grid n f i j hi hj ∙ h i j hi hj)

  -- a round that empties nothing keeps it, with the columns that changed as the live ones
  pub live_next : Filled n (round n m) → (next : ℕ → Bool)
      → ((k : ℕ) → k < n → next k ≡ false → ColumnKept n (round n m) m k) → LiveRounds n (round n m) next
  live_next F next f =
      let Q : Plain n (round n m) = round-plain n m L.plain F in
      record { plain = Q; settled = λ k h e. kept_settled n m k h L.plain Q (f k h e) }

  pub live_changed : Filled n (round n m) → LiveRounds n (round n m) (changed n (round n m) m)
  live_changed F = live_next F (changed n (round n m) m) (λ k h e. changed_not n (round n m) m k e)

  -- where no region is live, nothing changes
  pub none_live : length m ≡ n * n → ((k : ℕ) → k < n → live k ≡ false) → round n m ≡ m
  none_live l none =
      ext_cell n (round n m) m (length-round n m) l
      (λ i j hi hj. round-cell n m i j hi hj ∙ within_antisym (through_from_old n m L.plain i j hi hj)
      (through-largest n m i j n (cell n m i j) (byte_within_universal (cell n m i j) (L.plain.bytes.byte i j hi hj))
      (λ k h. (L.settled k h (none k h)).idle i j hi hj)))
