-- Membership: of a union, an intersection, a set of one relation; and numbers with the same members are equal.
use Prim.Native.Nat.{ℕ, zero, suc, ◌+◌, ◌*◌, ◌/◌, ◌%◌, ◌^◌, ◌≤◌, ◌<◌}
use mathlib.Core.Path.{◌≡◌, refl, sym, ap, ap₂, ◌∙◌, subst}
use mathlib.Core.Logic.{◌⊎◌, inl, inr, ⊎_elim}
use mathlib.Core.Bool.{Bool, true, false, cond, ◌&&◌, ◌||◌, true≢false, false≢true}
use native.Mathlib.Decide.{dec_lt}
use native.Mathlib.Nat.{not-suc-le-zero, le_of_suc-le-suc, zero-lt-suc, le_refl, le-add_right, not-le_of_lt, lt_of_lt_of_le, eq-or-lt_of_le}
use native.Mathlib.Nat.{zero-div, div-one, div-add-mod', div-eq_of_lt, mod-lt, pow-suc, mul-mod_left, mul-div_cancel}
use native.Mathlib.Omega.{arith}
use native.Mathlib.Numerals.{add-one, one-add}
use lib.Dec.{T, eqb, eqb→eq, eqb_refl, eqb-zero-suc, eqb-suc-zero, eqb-suc-suc, lit<}
use lib.Arith.{lt-one}
use lib.Pow.{pow_mono, shr-shr, shr_lt}
use lib.Bits.{bit_and, bit_or, and_shr, or_shr, and_mod, or_mod}
use Rattle.relation.specs.Sets.{has, only, empty, intersect, unite, union_of, over}
use Rattle.relation.proofs.Tests.{same, both, from_both, either, from_either}

-- ---- binary digits

pub digit : (P : ℕ → Type 0) → P 0 → P 1 → (n : ℕ) → n < 2 → P n
digit P z o zero h = z
digit P z o (suc zero) h = o
digit P z o (suc (suc n)) h = absurd (not-suc-le-zero (le_of_suc-le-suc (le_of_suc-le-suc h)))

two_pos : zero < 2
two_pos = zero-lt-suc 1

pub half_below : (k n : ℕ) → n < 2 ^ suc k → n / 2 < 2 ^ k
half_below k n h = shr_lt k 1 (subst (λ (x : ℕ). n < 2 ^ x) (sym (add-one k)) h)

digits_same : (m n : ℕ) → m < 2 → n < 2 → eqb m 1 ≡ eqb n 1 → m ≡ n
digits_same m n hm hn =
    digit (λ (x : ℕ). eqb x 1 ≡ eqb n 1 → x ≡ n)
    (digit (λ (y : ℕ). false ≡ eqb y 1 → 0 ≡ y) (λ e. refl) (λ e. absurd (false≢true e)) n hn)
    (digit (λ (y : ℕ). true ≡ eqb y 1 → 1 ≡ y) (λ e. absurd (true≢false e)) (λ e. refl) n hn) m hm

-- ---- the members of a set

pub has-unite : (a b r : ℕ) → has (unite a b) r ≡ has a r || has b r
unfolding has
has-unite a b r =
    ap (λ (x : ℕ). eqb (x % 2) 1) (or_shr a b r) ∙ ap (λ (x : ℕ). eqb x 1) (or_mod (a / 2 ^ r) (b / 2 ^ r) 1)
    ∙ digit (λ (m : ℕ). eqb (bit_or m (b / 2 ^ r % 2)) 1 ≡ eqb m 1 || eqb (b / 2 ^ r % 2) 1) refl
    (digit (λ (n : ℕ). eqb (bit_or 1 n) 1 ≡ true) refl refl (b / 2 ^ r % 2) (mod-lt (b / 2 ^ r) two_pos))
    (a / 2 ^ r % 2) (mod-lt (a / 2 ^ r) two_pos)

pub has-intersect : (a b r : ℕ) → has (intersect a b) r ≡ has a r && has b r
unfolding has
has-intersect a b r =
    ap (λ (x : ℕ). eqb (x % 2) 1) (and_shr a b r) ∙ ap (λ (x : ℕ). eqb x 1) (and_mod (a / 2 ^ r) (b / 2 ^ r) 1)
    ∙ digit (λ (m : ℕ). eqb (bit_and m (b / 2 ^ r % 2)) 1 ≡ eqb m 1 && eqb (b / 2 ^ r % 2) 1) refl
    (digit (λ (n : ℕ). eqb (bit_and 1 n) 1 ≡ eqb n 1) refl refl (b / 2 ^ r % 2) (mod-lt (b / 2 ^ r) two_pos))
    (a / 2 ^ r % 2) (mod-lt (a / 2 ^ r) two_pos)

pub has_half : (s r : ℕ) → has s (suc r) ≡ has (s / 2) r
unfolding has
has_half s r = ap (λ (k : ℕ). eqb (s / 2 ^ k % 2) 1) (sym (one-add r)) ∙ ap (λ (x : ℕ). eqb (x % 2) 1) (sym (shr-shr s 1 r))

pub has_odd : (s : ℕ) → has s 0 ≡ eqb (s % 2) 1
unfolding has
has_odd s = ap (λ (x : ℕ). eqb (x % 2) 1) (div-one s)

pub empty_has_none : (r : ℕ) → T (has empty r) → ⊥
unfolding has
empty_has_none r t = subst (λ (x : ℕ). T (eqb (x % 2) 1)) (zero-div (2 ^ r)) t

-- a set of one relation
pub has-only : (k r : ℕ) → has (only k) r ≡ eqb r k
unfolding has
has-only zero zero = refl
has-only zero (suc r) = has_half 1 r ∙ same _ _ (λ t. absurd (empty_has_none r t)) (λ t. absurd (subst T (eqb-suc-zero r) t))
has-only (suc k) zero =
    has_odd (2 ^ suc k)
    ∙ ap (λ (x : ℕ). eqb x 1) (ap (λ (x : ℕ). x % 2) (pow-suc 2 k) ∙ mul-mod_left (2 ^ k) 2)
    ∙ sym (eqb-zero-suc k)
has-only (suc k) (suc r) =
    has_half (2 ^ suc k) r ∙ ap (λ (x : ℕ). has x r) (ap (λ (x : ℕ). x / 2) (pow-suc 2 k) ∙ mul-div_cancel (2 ^ k) two_pos)
    ∙ has-only k r ∙ sym (eqb-suc-suc r k)

pub only-has : (k : ℕ) → T (has (only k) k)
only-has k = subst T (sym (has-only k k)) (eqb_refl k)

pub only_has_one : (k r : ℕ) → T (has (only k) r) → r ≡ k
only_has_one k r t = eqb→eq r k (subst T (has-only k r) t)

pub intersect_members : (a b r : ℕ) → T (has (intersect a b) r) → T (has a r) × T (has b r)
intersect_members a b r t = both (has a r) (has b r) (subst T (has-intersect a b r) t)

pub members_intersect : (a b r : ℕ) → T (has a r) → T (has b r) → T (has (intersect a b) r)
members_intersect a b r t u = subst T (sym (has-intersect a b r)) (from_both (has a r) (has b r) t u)

pub unite_members : (a b r : ℕ) → T (has (unite a b) r) → T (has a r) ⊎ T (has b r)
unite_members a b r t = either (has a r) (has b r) (subst T (has-unite a b r) t)

pub members_unite : (a b r : ℕ) → T (has a r) ⊎ T (has b r) → T (has (unite a b) r)
members_unite a b r t = subst T (sym (has-unite a b r)) (from_either (has a r) (has b r) t)

-- a member of a byte is one of the eight
pub byte_member : (s r : ℕ) → s < 256 → T (has s r) → r < 8
unfolding has
byte_member s r h t = go (dec_lt r 8)
  where
    go : Dec (r < 8) → r < 8
    go (yes l) = l
    go (no n) = absurd (subst (λ (x : ℕ). T (eqb (x % 2) 1)) (div-eq_of_lt (lt_of_lt_of_le h (pow_mono {i = 8} {j = r} (omega arith)))) t)

-- a byte has no member from 8 on
pub none_beyond : (s r : ℕ) → s < 256 → 8 ≤ r → has s r ≡ false
none_beyond s r h l = same (has s r) false (λ t. not-le_of_lt (byte_member s r h t) l) (λ t. absurd t)

-- a set of relations below k that is not empty has a member
pub some_member : (k a : ℕ) → a < 2 ^ k → (a ≡ empty → ⊥) → (r : ℕ) × (r < k) × T (has a r)
some_member zero a h n = absurd (n (lt-one h))
some_member (suc k) a h n =
    go (some_member k (a / 2) (half_below k a h)) (a % 2) refl (mod-lt a two_pos)
  where
    go : ((a / 2 ≡ 0 → ⊥) → (r : ℕ) × (r < k) × T (has (a / 2) r)) → (d : ℕ) → a % 2 ≡ d → d < 2 → (r : ℕ) × (r < suc k) × T (has a r)
    go ih zero e l =
        let w = ih (λ z. n (omega (arith, div-add-mod' a 2))) in
        (suc w.0, omega (arith, w.1), subst T (sym (has_half a w.0)) w.2)
    go ih (suc d) e l =
        let one : a % 2 ≡ 1 = omega arith in
        (0, omega arith, subst T (sym (has_odd a ∙ ap (λ (x : ℕ). eqb x 1) one)) tt)

-- ---- numbers with the same members are equal

-- of numbers of k digits
ext_below : (k a b : ℕ) → a < 2 ^ k → b < 2 ^ k → ((r : ℕ) → has a r ≡ has b r) → a ≡ b
ext_below zero a b ha hb e = lt-one ha ∙ sym (lt-one hb)
ext_below (suc k) a b ha hb e =
    sym (div-add-mod' a 2)
    ∙ ap₂ (λ (x y : ℕ). x * 2 + y)
    (ext_below k (a / 2) (b / 2) (half_below k a ha) (half_below k b hb) (λ r. sym (has_half a r) ∙ e (suc r) ∙ has_half b r))
    (digits_same (a % 2) (b % 2) (mod-lt a two_pos) (mod-lt b two_pos) (sym (has_odd a) ∙ e 0 ∙ has_odd b))
    ∙ div-add-mod' b 2

below_power : (n : ℕ) → n < 2 ^ n
below_power zero = lit< tt
below_power (suc n) = let h = below_power n in omega (arith, pow-suc 2 n)

pub ext : (a b : ℕ) → ((r : ℕ) → has a r ≡ has b r) → a ≡ b
ext a b e =
    ext_below (a + b) a b
    (lt_of_lt_of_le (below_power a) (pow_mono (le-add_right a b)))
    (lt_of_lt_of_le (below_power b) (pow_mono (omega arith))) e

-- each member of a is one of b
abbrev pub Part : ℕ → ℕ → Type 0
Part a b = (r : ℕ) → T (has a r) → T (has b r)

pub both_ways : (a b : ℕ) → Part a b → Part b a → a ≡ b
both_ways a b f g = ext a b (λ r. same (has a r) (has b r) (f r) (g r))

-- of bytes, by the eight relations
pub ext_byte : (a b : ℕ) → a < 256 → b < 256 → ((r : ℕ) → r < 8 → has a r ≡ has b r) → a ≡ b
ext_byte a b ha hb e =
    both_ways a b
    (λ r t. subst T (e r (byte_member a r ha t)) t)
    (λ r t. subst T (sym (e r (byte_member b r hb t))) t)

-- ---- the members of a union of sets

module _ (f : ℕ → ℕ) (r : ℕ) where
  union_members : (n : ℕ) → T (has (union_of n f) r) → (p : ℕ) × (p < n) × T (has (f p) r)
  unfolding union_of
  union_members zero t = absurd (empty_has_none r t)
  union_members (suc n) t = go (union_members n) (unite_members (union_of n f) (f n) r t)
    where
      go : (T (has (union_of n f) r) → (p : ℕ) × (p < n) × T (has (f p) r)) → T (has (union_of n f) r) ⊎ T (has (f n) r)
          → (p : ℕ) × (p < suc n) × T (has (f p) r)
      go ih (inl u) = let w = ih u in (w.0, omega (arith, w.1), w.2)
      go ih (inr u) = (n, le_refl (suc n), u)

  members_union : (n p : ℕ) → p < n → T (has (f p) r) → T (has (union_of n f) r)
  unfolding union_of
  members_union zero p h t = absurd (not-suc-le-zero h)
  members_union (suc n) p h t =
      members_unite (union_of n f) (f n) r
      (⊎_elim (λ e. inr (subst (λ (x : ℕ). T (has (f x) r)) e t)) (λ l. inl (members_union n p l t)) (eq-or-lt_of_le (le_of_suc-le-suc h)))

-- ---- the members of the union over the members of a set

-- the member of s by which r came in
pub record From (s : ℕ) (f : ℕ → ℕ) (r : ℕ) : Type 0 where
  pub relation : ℕ
  pub below : relation < 8
  pub member : T (has s relation)
  pub gives : T (has (f relation) r)

taken-only : (b : Bool) (x r : ℕ) → T (has (cond b x empty) r) → T b × T (has x r)
taken-only true x r t = (tt, t)
taken-only false x r t = absurd (empty_has_none r t)

taken_gives : (b : Bool) (x r : ℕ) → T b → T (has x r) → T (has (cond b x empty) r)
taken_gives true x r t u = u
taken_gives false x r t u = absurd t

pub over_members : (s : ℕ) (f : ℕ → ℕ) (r : ℕ) → T (has (over s f) r) → From s f r
unfolding over
over_members s f r t =
    let w = union_members (λ p. cond (has s p) (f p) empty) r 8 t in
    let m = taken-only (has s w.0) (f w.0) r w.2 in
    record { relation = w.0; below = w.1; member = m.0; gives = m.1 }

pub members_over : (s : ℕ) (f : ℕ → ℕ) (r : ℕ) → From s f r → T (has (over s f) r)
unfolding over
members_over s f r w =
    members_union (λ p. cond (has s p) (f p) empty) r 8 w.relation w.below
    (taken_gives (has s w.relation) (f w.relation) r w.member w.gives)
