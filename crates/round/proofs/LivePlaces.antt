-- A cell taken through the live places: one place more, a run of places that are not live, and tests that agree.
use mathlib.Core.Path.{◌≡◌, refl, ap₂, ◌∙◌}
use mathlib.Core.Bool.{Bool, true, false, cond}
use mathlib.Core.List.{List}
use Prim.Native.Nat.{ℕ, zero, suc, ◌≤◌, ◌<◌}
use native.Mathlib.Omega.{arith}
use Rattle.lists.proofs.Splits.{split_lt}
use Rattle.relation.specs.Sets.{intersect}
use Rattle.relation.specs.Composition.{compose}
use Rattle.matrix.specs.Cells.{cell}
use Rattle.round.specs.Round.{through_live}

module _ (n : ℕ) (m : List ℕ) (live : ℕ → Bool) (i j : ℕ) where
  pub live_none : through_live n m live i j 0 ≡ cell n m i j
  unfolding through_live
  live_none = refl

  pub live_more : (k : ℕ) → live k ≡ true
      → through_live n m live i j (suc k) ≡ intersect (through_live n m live i j k) (compose (cell n m i k) (cell n m k j))
  unfolding through_live
  live_more k e = rw e

  pub live_skip : (k : ℕ) → live k ≡ false → through_live n m live i j (suc k) ≡ through_live n m live i j k
  unfolding through_live
  live_skip k e = rw e

  -- past a run of places that are not live
  pub live_skip_to : (k l : ℕ) → k ≤ l → ((x : ℕ) → k ≤ x → x < l → live x ≡ false)
      → through_live n m live i j l ≡ through_live n m live i j k
  live_skip_to k zero h f = let e : k ≡ 0 = omega arith in rw e
  live_skip_to k (suc l) h f =
      split_lt l k (λ u. let e : k ≡ suc l = omega arith in rw e)
      (λ u. live_skip l (f l u (omega arith)) ∙ live_skip_to k l u (λ x p q. f x p (omega arith)))

-- where cells and tests agree, so does what comes of them
pub live_same : (n s : ℕ) (m a : List ℕ) (live other : ℕ → Bool) (i j count : ℕ)
    → cell n m i j ≡ cell s a i j → ((k : ℕ) → k < count → live k ≡ other k)
    → ((k : ℕ) → k < count → cell n m i k ≡ cell s a i k) → ((k : ℕ) → k < count → cell n m k j ≡ cell s a k j)
    → through_live n m live i j count ≡ through_live s a other i j count
unfolding through_live
live_same n s m a live other i j zero e t f g = e
live_same n s m a live other i j (suc k) e t f g =
    let rest = live_same n s m a live other i j k e (λ x h. t x (omega arith)) (λ x h. f x (omega arith)) (λ x h. g x (omega arith)) in
    ap₂ (λ (b : Bool) (x : ℕ). cond b (intersect x (compose (cell n m i k) (cell n m k j))) x) (t k (omega arith)) rest
    ∙ ap₂ (λ (x y : ℕ). cond (other k) (intersect (through_live s a other i j k) (compose x y)) (through_live s a other i j k))
    (f k (omega arith)) (g k (omega arith))
