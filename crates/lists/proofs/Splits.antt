-- Going by cases: by a test, by an order of two numbers, by whether they are equal.
use mathlib.Core.Path.{◌≡◌, refl}
use mathlib.Core.Bool.{Bool, true, false}
use Prim.Native.Nat.{ℕ, ◌≤◌, ◌<◌}
use lib.Dec.{eqb, ltb}
use borrow.Author.Tests.{ltb-true, ltb-false, eqb-true, eqb-false}

pub by_test : {C : Type 0} (b : Bool) → (b ≡ true → C) → (b ≡ false → C) → C
by_test true f g = f refl
by_test false f g = g refl

pub split_lt : {C : Type 0} (a b : ℕ) → (a < b → C) → (b ≤ a → C) → C
split_lt a b f g = by_test (ltb a b) (λ e. f (ltb-true a b e)) (λ e. g (ltb-false a b e))

pub split_eq : {C : Type 0} (a b : ℕ) → (a ≡ b → C) → ((a ≡ b → ⊥) → C) → C
split_eq a b f g = by_test (eqb a b) (λ e. f (eqb-true a b e)) (λ e. g (eqb-false a b e))
