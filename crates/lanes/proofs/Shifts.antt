-- The bits of a shifted and of a cut number.
use Prim.Native.Nat.{ℕ, zero, suc, ◌+◌, ◌*◌, ◌/◌, ◌%◌, ◌^◌, ◌<◌, ◌≤◌}
use mathlib.Core.Path.{◌≡◌, sym, ap, ◌∙◌}
use mathlib.Core.Bool.{false}
use native.Mathlib.Nat.{not-suc-le-zero, le_of_suc-le-suc, div-eq_of_lt, lt_of_lt_of_le}
use native.Mathlib.Numerals.{add-one}
use lib.Bits.{shifted_half, shifted_even}
use lib.Dec.{eqb}
use lib.Pow.{pow_mono, shr-shr, shl-shr, field, mod-mod-pow}
use Rattle.relation.specs.Sets.{has}
use Rattle.relation.proofs.Member.{has_half, has_odd}

pub has_shr : (n k i : ℕ) → has (n / 2 ^ k) i ≡ has n (k + i)
unfolding has
has_shr n k i = ap (λ (x : ℕ). eqb (x % 2) 1) (shr-shr n k i)

pub has_shl : (n k i : ℕ) → has (n * 2 ^ k) (k + i) ≡ has n i
has_shl n k i = sym (has_shr (n * 2 ^ k) k i) ∙ ap (λ (x : ℕ). has x i) (shl-shr n k)

pub has_shl_below : (n k i : ℕ) → i < k → has (n * 2 ^ k) i ≡ false
has_shl_below n zero i h = absurd (not-suc-le-zero h)
has_shl_below n (suc k) zero h = has_odd (n * 2 ^ suc k) ∙ ap (λ (x : ℕ). eqb x 1) (shifted_even n k)
has_shl_below n (suc k) (suc i) h =
    has_half (n * 2 ^ suc k) i ∙ ap (λ (x : ℕ). has x i) (shifted_half n k) ∙ has_shl_below n k i (le_of_suc-le-suc h)

pub has-low : (n k i : ℕ) → i < k → has (n % 2 ^ k) i ≡ has n i
has-low n zero i h = absurd (not-suc-le-zero h)
has-low n (suc k) zero h =
    has_odd (n % 2 ^ suc k)
    ∙ ap (λ (x : ℕ). eqb x 1) (ap (λ (j : ℕ). n % 2 ^ j % 2) (sym (add-one k)) ∙ mod-mod-pow n k 1) ∙ sym (has_odd n)
has-low n (suc k) (suc i) h =
    has_half (n % 2 ^ suc k) i
    ∙ ap (λ (x : ℕ). has x i) (ap (λ (j : ℕ). n % 2 ^ j / 2) (sym (add-one k)) ∙ field n k 1)
    ∙ has-low (n / 2) k i (le_of_suc-le-suc h) ∙ sym (has_half n i)

-- a number below 2 ^ k has no bit from k on
pub has_beyond : (n k i : ℕ) → n < 2 ^ k → k ≤ i → has n i ≡ false
unfolding has
has_beyond n k i h l = ap (λ (x : ℕ). eqb (x % 2) 1) (div-eq_of_lt (lt_of_lt_of_le h (pow_mono l)))
