-- The bits in which two numbers differ, a number times one bit of another, the word of 64 ones, and the other bits of a word.
use Prim.Native.Nat.{ℕ, zero, suc, ◌*◌, ◌-◌, ◌/◌, ◌%◌, ◌^◌, ◌<◌}
use mathlib.Core.Path.{◌≡◌, refl, sym, ap, ◌∙◌}
use mathlib.Core.Bool.{true, false, cond, not, beq}
use native.Mathlib.Nat.{mod-lt, zero-lt-suc, zero-mul, one-mul, pow-suc, not-suc-le-zero, le_of_suc-le-suc}
use native.Mathlib.Omega.{arith}
use lib.Bits.{bit_xor, xor_shr, xor_mod}
use lib.Dec.{T, eqb}
use Rattle.relation.specs.Sets.{has, empty}
use Rattle.relation.proofs.Tests.{same, all, all_at}
use Rattle.relation.proofs.Member.{digit, half_below, has_half, has_odd}

low_digit : (n x : ℕ) → n / 2 ^ x % 2 < 2
low_digit n x = mod-lt (n / 2 ^ x) (zero-lt-suc 1)

pub has_xor : (a b x : ℕ) → has (bit_xor a b) x ≡ not (beq (has a x) (has b x))
unfolding has
has_xor a b x =
    ap (λ (n : ℕ). eqb (n % 2) 1) (xor_shr a b x) ∙ ap (λ (n : ℕ). eqb n 1) (xor_mod (a / 2 ^ x) (b / 2 ^ x) 1)
    ∙ digit (λ (m : ℕ). eqb (bit_xor m (b / 2 ^ x % 2)) 1 ≡ not (beq (eqb m 1) (eqb (b / 2 ^ x % 2) 1)))
    (digit (λ (n : ℕ). eqb (bit_xor 0 n) 1 ≡ not (beq false (eqb n 1))) refl refl (b / 2 ^ x % 2) (low_digit b x))
    (digit (λ (n : ℕ). eqb (bit_xor 1 n) 1 ≡ not (beq true (eqb n 1))) refl refl (b / 2 ^ x % 2) (low_digit b x))
    (a / 2 ^ x % 2) (low_digit a x)

-- a number times bit x of a
pub bit_times : (a x c : ℕ) → a / 2 ^ x % 2 * c ≡ cond (has a x) c empty
unfolding has
bit_times a x c =
    digit (λ (d : ℕ). d * c ≡ cond (eqb d 1) c empty) (zero-mul c) (one-mul c) (a / 2 ^ x % 2) (low_digit a x)

ones : (x : ℕ) → x < 64 → T (has 18446744073709551615 x)
unfolding all has
ones x h = all_at 64 (has 18446744073709551615) tt x h

-- the word of 64 ones has every bit
pub all_ones : (x : ℕ) → x < 64 → has 18446744073709551615 x ≡ true
all_ones x h = same (has 18446744073709551615 x) true (λ t. tt) (λ t. ones x h)

-- ---- the other bits of a word

other-below : (k y i : ℕ) → y < 2 ^ k → i < k → has (2 ^ k - 1 - y) i ≡ not (has y i)
other-below zero y i h l = absurd (not-suc-le-zero l)
other-below (suc k) y zero h l =
    let two = pow-suc 2 k in
    has_odd (2 ^ suc k - 1 - y)
    ∙ digit (λ (d : ℕ). y % 2 ≡ d → eqb ((2 ^ suc k - 1 - y) % 2) 1 ≡ not (eqb d 1))
    (λ e. let odd : (2 ^ suc k - 1 - y) % 2 ≡ 1 = omega arith in ap (λ (n : ℕ). eqb n 1) odd)
    (λ e. let even : (2 ^ suc k - 1 - y) % 2 ≡ 0 = omega arith in ap (λ (n : ℕ). eqb n 1) even)
    (y % 2) (mod-lt y (zero-lt-suc 1)) refl
    ∙ ap not (sym (has_odd y))
other-below (suc k) y (suc i) h l =
    let two = pow-suc 2 k in
    let half : (2 ^ suc k - 1 - y) / 2 ≡ 2 ^ k - 1 - y / 2 = omega arith in
    has_half (2 ^ suc k - 1 - y) i ∙ ap (λ (n : ℕ). has n i) half
    ∙ other-below k (y / 2) i (half_below k y h) (le_of_suc-le-suc l) ∙ ap not (sym (has_half y i))

pub has_other : (y i : ℕ) → y < 2 ^ 64 → i < 64 → has (18446744073709551615 - y) i ≡ not (has y i)
has_other y i h l = other-below 64 y i h l
