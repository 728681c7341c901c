-- How long a list by a rule is, and what stands in it.
use mathlib.Core.Path.{◌≡◌, refl, sym, ap, ◌∙◌}
use Prim.Native.Nat.{ℕ, zero, suc, ◌+◌, ◌<◌}
use native.Mathlib.Nat.{le_of_suc-le-suc, not-suc-le-zero, add-zero}
use native.Mathlib.Omega.{arith}
use lib.ListN.{length, get_or}
use Rattle.lists.specs.Tabled.{tabled}

pub length-tabled : (count start : ℕ) (f : ℕ → ℕ) → length (tabled count start f) ≡ count
unfolding tabled
length-tabled zero start f = refl
length-tabled (suc count) start f = ap suc (length-tabled count (suc start) f)

pub get_or-tabled : (count start : ℕ) (f : ℕ → ℕ) (p : ℕ) → p < count → get_or (tabled count start f) p 0 ≡ f (start + p)
unfolding tabled
get_or-tabled zero start f p h = absurd (not-suc-le-zero h)
get_or-tabled (suc count) start f zero h = ap f (sym (add-zero start))
get_or-tabled (suc count) start f (suc p) h = get_or-tabled count (suc start) f p (le_of_suc-le-suc h) ∙ ap f (omega arith)
