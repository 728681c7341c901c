-- Tests, taken apart and put together; a test at every number below a bound, and a list of tests.
use Prim.Native.Nat.{ℕ, zero, suc, ◌<◌}
use mathlib.Core.Path.{◌≡◌, refl, sym, subst}
use mathlib.Core.Logic.{◌⊎◌, inl, inr, ⊎_elim}
use mathlib.Core.Bool.{Bool, true, false, ◌&&◌, ◌||◌}
use mathlib.Core.List.{List, [], ◌∷◌}
use native.Mathlib.Nat.{not-suc-le-zero, le_of_suc-le-suc, eq-or-lt_of_le}
use lib.Dec.{T}

-- two tests are equal where each gives the other
pub same : (a b : Bool) → (T a → T b) → (T b → T a) → a ≡ b
same true true f g = refl
same true false f g = absurd (f tt)
same false true f g = absurd (g tt)
same false false f g = refl

pub both : (a b : Bool) → T (a && b) → T a × T b
both true b t = (tt, t)
both false b t = absurd t

pub from_both : (a b : Bool) → T a → T b → T (a && b)
from_both true b t u = u
from_both false b t u = absurd t

pub either : (a b : Bool) → T (a || b) → T a ⊎ T b
either true b t = inl tt
either false b t = inr t

pub from_either : (a b : Bool) → T a ⊎ T b → T (a || b)
from_either true b t = tt
from_either false b (inl t) = absurd t
from_either false b (inr t) = t

-- the test f passes at 0, .., n - 1
unfoldable pub all : ℕ → (ℕ → Bool) → Bool
all zero f = true
all (suc n) f = f n && all n f

pub all_at : (n : ℕ) (f : ℕ → Bool) → T (all n f) → (k : ℕ) → k < n → T (f k)
unfolding all
all_at zero f t k h = absurd (not-suc-le-zero h)
all_at (suc n) f t k h =
    let w = both (f n) (all n f) t in
    ⊎_elim (λ e. subst (λ (x : ℕ). T (f x)) (sym e) w.0) (λ l. all_at n f w.1 k l) (eq-or-lt_of_le (le_of_suc-le-suc h))

-- the tests of a list all pass
unfoldable pub every : List Bool → Bool
every [] = true
every (b ∷ bs) = b && every bs

abbrev pub Each : List Bool → Type 0
Each [] = Unit {0}
Each (b ∷ bs) = T b × Each bs

pub each : (bs : List Bool) → T (every bs) → Each bs
unfolding every
each [] t = tt
each (b ∷ bs) t = let w = both b (every bs) t in (w.0, each bs w.1)
