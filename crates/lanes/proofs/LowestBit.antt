-- The lowest bit of a word, the word without it, and the places of the bits one after the other.
use Prim.Native.Nat.{ℕ, zero, suc, ◌-◌, ◌/◌, ◌%◌, ◌^◌, ◌<◌, ◌≤◌}
use mathlib.Core.Path.{◌≡◌, refl, sym, ap, ap₂, ◌∙◌}
use mathlib.Core.Logic.{⊎_elim}
use mathlib.Core.Bool.{Bool, true, false, cond, not, ◌&&◌, and_self, and-false, and-true}
use mathlib.Core.List.{List, [], ◌∷◌, ◌++◌}
use native.Mathlib.Nat.{mod-lt, div-add-mod', not-suc-le-zero, le_of_suc-le-suc, le_trans, le-suc, zero-lt-suc, lt_of_le_of_lt, eq-or-lt_of_le}
use native.Mathlib.Omega.{arith}
use lib.Arith.{lt-one}
use lib.Bits.{and_le_r}
use lib.Count.{count_trailing_zeros, under}
use lib.ListN.{length}
use lib.Dec.{eqb, eqb-suc-zero, eqb-suc-suc, eqb→eq, eqb_refl}
use Rattle.relation.specs.Sets.{has}
use Rattle.std.proofs.Common.{Some, None}
use Rattle.lists.specs.Least.{found_below}
use Rattle.lists.proofs.Splits.{split_eq}
use Rattle.lists.proofs.Found.{found_some, found_none}
use Rattle.relation.proofs.Tests.{same}
use Rattle.relation.proofs.Member.{half_below, has_half, has_odd, has-intersect}
use Rattle.lanes.specs.Places.{places_below, places, lowest_of, without_lowest}

-- ---- the lowest bit

lowest_has : (k m : ℕ) → m < 2 ^ k → (m ≡ 0 → ⊥) → has m (count_trailing_zeros k m) ≡ true
unfolding count_trailing_zeros
lowest_has zero m h n = absurd (n (lt-one h))
lowest_has (suc k) m h n = go (m % 2) refl (mod-lt m (zero-lt-suc 1)) (lowest_has k (m / 2) (half_below k m h))
  where
    go : (d : ℕ) → m % 2 ≡ d → d < 2 → ((m / 2 ≡ 0 → ⊥) → has (m / 2) (count_trailing_zeros k (m / 2)) ≡ true)
        → has m (under d (count_trailing_zeros k (m / 2))) ≡ true
    go zero e l ih = has_half m (count_trailing_zeros k (m / 2)) ∙ ih (λ z. n (omega (arith, div-add-mod' m 2)))
    go (suc d) e l ih = let one : m % 2 ≡ 1 = omega arith in has_odd m ∙ ap (λ (x : ℕ). eqb x 1) one

lowest_before : (k m i : ℕ) → i < count_trailing_zeros k m → has m i ≡ false
unfolding count_trailing_zeros
lowest_before zero m i h = absurd (not-suc-le-zero h)
lowest_before (suc k) m i h = go (m % 2) refl i h (lowest_before k (m / 2))
  where
    go : (d : ℕ) → m % 2 ≡ d → (i : ℕ) → i < under d (count_trailing_zeros k (m / 2))
        → ((j : ℕ) → j < count_trailing_zeros k (m / 2) → has (m / 2) j ≡ false) → has m i ≡ false
    go zero e zero l ih = has_odd m ∙ ap (λ (x : ℕ). eqb x 1) e
    go zero e (suc j) l ih = has_half m j ∙ ih j (le_of_suc-le-suc l)
    go (suc d) e j l ih = absurd (not-suc-le-zero l)

lowest_below : (k m : ℕ) → m < 2 ^ k → (m ≡ 0 → ⊥) → count_trailing_zeros k m < k
unfolding count_trailing_zeros
lowest_below zero m h n = absurd (n (lt-one h))
lowest_below (suc k) m h n = go (m % 2) refl (lowest_below k (m / 2) (half_below k m h))
  where
    go : (d : ℕ) → m % 2 ≡ d → ((m / 2 ≡ 0 → ⊥) → count_trailing_zeros k (m / 2) < k) → under d (count_trailing_zeros k (m / 2)) < suc k
    go zero e ih = let l = ih (λ z. n (omega (arith, div-add-mod' m 2))) in omega arith
    go (suc d) e ih = zero-lt-suc k

-- ---- the bits of m and m - 1

both_have : (k m i : ℕ) → m < 2 ^ k → (m ≡ 0 → ⊥) → has m i && has (m - 1) i ≡ has m i && not (eqb i (count_trailing_zeros k m))
unfolding count_trailing_zeros
both_have zero m i h n = absurd (n (lt-one h))
both_have (suc k) m i h n = go (m % 2) refl (mod-lt m (zero-lt-suc 1)) i (both_have k (m / 2))
  where
    go : (d : ℕ) → m % 2 ≡ d → d < 2 → (i : ℕ)
        → ((i : ℕ) → m / 2 < 2 ^ k → (m / 2 ≡ 0 → ⊥)
        → has (m / 2) i && has (m / 2 - 1) i ≡ has (m / 2) i && not (eqb i (count_trailing_zeros k (m / 2))))
        → has m i && has (m - 1) i ≡ has m i && not (eqb i (under d (count_trailing_zeros k (m / 2))))
    go zero e l zero ih =
        let none : has m 0 ≡ false = has_odd m ∙ ap (λ (x : ℕ). eqb x 1) e in
        ap (λ (b : Bool). b && has (m - 1) 0) none ∙ ap (λ (b : Bool). b && not (eqb 0 (suc (count_trailing_zeros k (m / 2))))) (sym none)
    go zero e l (suc j) ih =
        let half : (m - 1) / 2 ≡ m / 2 - 1 = omega arith in
        ap₂ ◌&&◌ (has_half m j) (has_half (m - 1) j ∙ ap (λ (x : ℕ). has x j) half)
        ∙ ih j (half_below k m h) (λ z. n (omega (arith, div-add-mod' m 2)))
        ∙ ap₂ ◌&&◌ (sym (has_half m j)) (ap not (sym (eqb-suc-suc j (count_trailing_zeros k (m / 2)))))
    go (suc d) e l zero ih =
        let even : (m - 1) % 2 ≡ 0 = omega arith in
        ap (λ (b : Bool). has m 0 && b) (has_odd (m - 1) ∙ ap (λ (x : ℕ). eqb x 1) even)
    go (suc d) e l (suc j) ih =
        let half : (m - 1) / 2 ≡ m / 2 = omega arith in
        ap₂ ◌&&◌ (has_half m j) (has_half (m - 1) j ∙ ap (λ (x : ℕ). has x j) half)
        ∙ and_self (has (m / 2) j) ∙ sym (has_half m j) ∙ sym (and-true (has m (suc j)))
        ∙ ap (λ (b : Bool). has m (suc j) && not b) (sym (eqb-suc-zero j))

-- ---- what a word that is not 0 and its lowest place have to do with each other

pub record Lowest (m : ℕ) : Type 0 where
  pub below : lowest_of m < 64
  pub member : has m (lowest_of m) ≡ true
  pub first : (i : ℕ) → i < lowest_of m → has m i ≡ false
  pub rest : (i : ℕ) → has (without_lowest m) i ≡ has m i && not (eqb i (lowest_of m))
  pub less : without_lowest m < m

pub lowest_facts : (m : ℕ) → m < 2 ^ 64 → 0 < m → Lowest m
lowest_facts m h n = record {
  below = lowest_below 64 m h (λ e. omega arith);
  member = lowest_has 64 m h (λ e. omega arith);
  first = lowest_before 64 m;
  rest = λ i. has-intersect m (m - 1) i ∙ both_have 64 m i h (λ e. omega arith);
  less = lt_of_le_of_lt (and_le_r m (m - 1)) (omega arith);
}

-- ---- the places: the lowest, and then those of the word without it

module _ (m : ℕ) (f : Lowest m) where
  none_before : (n : ℕ) → n ≤ lowest_of m → places_below n m ≡ []
  unfolding places_below
  none_before zero h = refl
  none_before (suc n) h =
      ap₂ (λ (l : List ℕ) (b : Bool). l ++ cond b (n ∷ []) []) (none_before n (le_trans (le-suc n) h)) (f.first n h)

  lost : (n : ℕ) → n ≤ lowest_of m → has (without_lowest m) n ≡ false
  lost n h =
      f.rest n
      ∙ ⊎_elim
      (λ e. ap (λ (b : Bool). has m n && not b) (ap (λ (k : ℕ). eqb n k) (sym e) ∙ same (eqb n n) true (λ t. tt) (λ t. eqb_refl n))
      ∙ and-false (has m n))
      (λ l. ap (λ (b : Bool). b && not (eqb n (lowest_of m))) (f.first n l)) (eq-or-lt_of_le h)

  kept : (n : ℕ) → lowest_of m < n → has (without_lowest m) n ≡ has m n
  kept n h =
      f.rest n
      ∙ ap (λ (b : Bool). has m n && not b)
      (same (eqb n (lowest_of m)) false (λ t. let e = eqb→eq n (lowest_of m) t in omega arith) (λ t. absurd t))
      ∙ and-true (has m n)

  none_left : (n : ℕ) → n ≤ suc (lowest_of m) → places_below n (without_lowest m) ≡ []
  unfolding places_below
  none_left zero h = refl
  none_left (suc n) h =
      ap₂ (λ (l : List ℕ) (b : Bool). l ++ cond b (n ∷ []) []) (none_left n (le_trans (le-suc n) h)) (lost n (le_of_suc-le-suc h))

  first_of : (n : ℕ) → lowest_of m < n → places_below n m ≡ lowest_of m ∷ places_below n (without_lowest m)
  unfolding places_below
  first_of zero h = absurd (not-suc-le-zero h)
  first_of (suc n) h =
      ⊎_elim
      (λ e.
      ap₂ (λ (l : List ℕ) (b : Bool). l ++ cond b (n ∷ []) []) (none_before n (omega arith)) (ap (has m) (sym e) ∙ f.member)
      ∙ ap₂ (λ (k : ℕ) (l : List ℕ). k ∷ l) (sym e) (sym (none_left (suc n) (omega arith))))
      (λ l.
      ap₂ (λ (l : List ℕ) (b : Bool). l ++ cond b (n ∷ []) []) (first_of n l) (sym (kept n l)))
      (eq-or-lt_of_le (le_of_suc-le-suc h))

pub places-first : (m : ℕ) → Lowest m → places m ≡ lowest_of m ∷ places (without_lowest m)
unfolding places
places-first m f = first_of m f 64 f.below

pub places-none : places 0 ≡ []
unfolding places places_below has
places-none = refl

pub places_of_none : (m : ℕ) → m ≡ 0 → places m ≡ []
places_of_none m e = ap places e ∙ places-none

-- ---- what `lowest` finds

pub none_lowest : lowest_of 0 ≡ 64
unfolding count_trailing_zeros
none_lowest = refl

-- where a place is found, there is a bit
some_bit : (m k : ℕ) → Some k ≡ found_below 64 (lowest_of m) → 0 < m
some_bit m k e =
    let place = found_some 64 (lowest_of m) e in
    split_eq m 0 (λ z. let none : lowest_of m ≡ 64 = ap lowest_of z ∙ none_lowest in omega (arith, place.1)) (λ n. omega arith)

-- where none is found, no place comes
pub no_places : (m : ℕ) → m < 2 ^ 64 → None ≡ found_below 64 (lowest_of m) → places m ≡ []
no_places m h e =
    let past = found_none 64 (lowest_of m) e in
    split_eq m 0 (places_of_none m) (λ n. let below = lowest_below 64 m h n in absurd (omega (arith, past)))

-- the place that is found comes first, and those of the word without it are left
pub places_next : (m k rest : ℕ) → m < 2 ^ 64 → Some k ≡ found_below 64 (lowest_of m) → rest ≡ without_lowest m
    → places m ≡ k ∷ places rest
places_next m k rest h e q =
    places-first m (lowest_facts m h (some_bit m k e))
    ∙ ap₂ (λ (j r : ℕ). j ∷ places r) (sym (found_some 64 (lowest_of m) e).0) (sym q)

pub fewer_places : (m k rest : ℕ) → m < 2 ^ 64 → Some k ≡ found_below 64 (lowest_of m) → rest ≡ without_lowest m
    → length (places rest) < length (places m)
fewer_places m k rest h e q = let next = ap length (places_next m k rest h e q) in omega arith
