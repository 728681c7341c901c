-- Sums f 0 + .. + f (n - 1) and their order.
use mathlib.Core.Path.{◌≡◌, subst}
use Prim.Native.Nat.{ℕ, zero, suc, ◌+◌, ◌*◌, ◌≤◌, ◌<◌}
use native.Mathlib.Omega.{arith}
use Rattle.lists.proofs.Splits.{split_lt}

unfoldable pub sum_to : ℕ → (ℕ → ℕ) → ℕ
sum_to zero f = 0
sum_to (suc n) f = f n + sum_to n f

pub sum_le : (n : ℕ) (f g : ℕ → ℕ) → ((i : ℕ) → i < n → f i ≤ g i) → sum_to n f ≤ sum_to n g
unfolding sum_to
sum_le zero f g h = omega arith
sum_le (suc n) f g h = omega (arith, h n (omega arith), sum_le n f g (λ i l. h i (omega arith)))

-- one smaller term makes the sum smaller
pub sum_lt : (n : ℕ) (f g : ℕ → ℕ) → ((i : ℕ) → i < n → f i ≤ g i) → (j : ℕ) → j < n → f j < g j
    → sum_to n f < sum_to n g
unfolding sum_to
sum_lt zero f g h j l s = absurd (omega arith)
sum_lt (suc n) f g h j l s =
    split_lt j n
    (λ m. omega (arith, h n (omega arith), sum_lt n f g (λ i l. h i (omega arith)) j m s))
    (λ m. let e : j ≡ n = omega arith in
    omega (arith, subst (λ (x : ℕ). f x < g x) e s, sum_le n f g (λ i l. h i (omega arith))))

pub sum_constant : (n c : ℕ) → sum_to n (λ i. c) ≡ c * n
unfolding sum_to
sum_constant zero c = omega arith
sum_constant (suc n) c = omega (arith, sum_constant n c)
