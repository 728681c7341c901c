-- The number of members of a set, along the order of sets.
use Prim.Native.Nat.{ℕ, zero, suc, ◌≤◌, ◌<◌, zero-le}
use mathlib.Core.Path.{◌≡◌, refl, sym, subst}
use mathlib.Core.Logic.{⊎_elim}
use mathlib.Core.Bool.{Bool, true, false, cond}
use native.Mathlib.Nat.{le_refl, add-le-add, not-suc-le-zero, eq-or-lt_of_le, le_of_suc-le-suc}
use native.Mathlib.Omega.{arith}
use lib.Arith.{lt_of_le-ne}
use lib.Dec.{T}
use Rattle.relation.specs.Sets.{has, empty, members_below, size, Within}
use Rattle.relation.proofs.Member.{Part, ext_byte, empty_has_none}
use Rattle.relation.proofs.Within.{within_members, members_within, within-byte}

one_le : (x y : Bool) → (T x → T y) → cond x 1 0 ≤ cond y 1 0
one_le true true g = le_refl 1
one_le true false g = absurd (g tt)
one_le false y g = zero-le

one_same : (x y : Bool) → cond {A = ℕ} x 1 0 ≡ cond y 1 0 → x ≡ y
one_same true true q = refl
one_same true false q = absurd (omega arith)
one_same false true q = absurd (omega arith)
one_same false false q = refl

module _ (a b : ℕ) (f : Part a b) where
  below_le : (n : ℕ) → members_below n a ≤ members_below n b
  unfolding members_below
  below_le zero = zero-le
  below_le (suc n) = add-le-add (below_le n) (one_le (has a n) (has b n) (f n))

  below-same : (n : ℕ) → members_below n a ≡ members_below n b → (r : ℕ) → r < n → has a r ≡ has b r
  unfolding members_below
  below-same zero e r h = absurd (not-suc-le-zero h)
  below-same (suc n) e r h =
      let l = below_le n in
      let k = one_le (has a n) (has b n) (f n) in
      ⊎_elim {0, 0, 0} (λ q. subst (λ (x : ℕ). has a x ≡ has b x) (sym q) (one_same (has a n) (has b n) (omega arith)))
      (λ m. below-same n (omega arith) r m) (eq-or-lt_of_le (le_of_suc-le-suc h))

pub size-within : {a b : ℕ} → Within a b → size a ≤ size b
unfolding size
size-within {a} {b} p = below_le a b (within_members p) 8

-- a set within another byte, and not the same, is smaller
pub size_within_less : {a b : ℕ} → Within a b → b < 256 → (a ≡ b → ⊥) → size a < size b
unfolding size
size_within_less {a} {b} p h n =
    lt_of_le-ne (size-within p) (λ e. n (ext_byte a b (within-byte p h) h (below-same a b (within_members p) 8 e)))

pub size-some : (s : ℕ) → s < 256 → (s ≡ empty → ⊥) → 0 < size s
unfolding size members_below has
size-some s h n = size_within_less {a = empty} {b = s} (members_within (λ r t. absurd (empty_has_none r t))) h (λ e. n (sym e))

below-most : (n s : ℕ) → members_below n s ≤ n
unfolding members_below
below-most zero s = zero-le
below-most (suc n) s = let l = below-most n s in let k = one_le (has s n) true (λ t. tt) in omega arith

pub size-most : (s : ℕ) → size s ≤ 8
unfolding size
size-most s = below-most 8 s
