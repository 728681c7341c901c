-- What comes of going through the places of a word below a bound, one place at a time.
use Prim.Native.Nat.{ℕ, zero, suc}
use mathlib.Core.Path.{◌≡◌, refl, ◌∙◌}
use mathlib.Core.Bool.{Bool, true, false, cond}
use mathlib.Core.List.{List, [], ◌∷◌, ◌++◌}
use Rattle.relation.specs.Sets.{has}
use Rattle.lanes.specs.Places.{places_below, places, in_turn, visited}

module _ {A : Type 0} (step : A → ℕ → A) where
  in_turn_append : (a : A) (ks ls : List ℕ) → in_turn step a (ks ++ ls) ≡ in_turn step (in_turn step a ks) ls
  unfolding in_turn
  in_turn_append a [] ls = refl
  in_turn_append a (k ∷ ks) ls = in_turn_append (step a k) ks ls

  one_or_none : (b : Bool) (a : A) (n : ℕ) → in_turn step a (cond b (n ∷ []) []) ≡ cond b (step a n) a
  unfolding in_turn
  one_or_none true a n = refl
  one_or_none false a n = refl

  -- a taken through the places below n
  unfoldable pub upto : A → ℕ → ℕ → A
  upto a m n = in_turn step a (places_below n m)

  pub upto_none : (a : A) (m : ℕ) → upto a m 0 ≡ a
  unfolding upto places_below in_turn
  upto_none a m = refl

  pub upto_more : (a : A) (m n : ℕ) → upto a m (suc n) ≡ cond (has m n) (step (upto a m n) n) (upto a m n)
  unfolding upto places_below
  upto_more a m n =
      in_turn_append a (places_below n m) (cond (has m n) (n ∷ []) []) ∙ one_or_none (has m n) (in_turn step a (places_below n m)) n

  -- a property that every place keeps holds below every bound
  pub upto_keeps : (P : ℕ → A → Type 0) (a : A) (m : ℕ) → P 0 a
      → ((n : ℕ) (x : A) → has m n ≡ true → P n x → P (suc n) (step x n))
      → ((n : ℕ) (x : A) → has m n ≡ false → P n x → P (suc n) x)
      → (n : ℕ) → P n (upto a m n)
  upto_keeps P a m start taken left zero = rw (upto_none a m) start
  upto_keeps P a m start taken left (suc n) =
      rw (upto_more a m n) (go (has m n) (taken n (upto a m n)) (left n (upto a m n)) (upto_keeps P a m start taken left n))
    where
      go : (b : Bool) → (b ≡ true → P n (upto a m n) → P (suc n) (step (upto a m n) n))
          → (b ≡ false → P n (upto a m n) → P (suc n) (upto a m n)) → P n (upto a m n)
          → P (suc n) (cond b (step (upto a m n) n) (upto a m n))
      go true f g h = f refl h
      go false f g h = g refl h

  pub visited_upto : (a : A) (m : ℕ) → visited step a m ≡ upto a m 64
  unfolding visited upto places
  visited_upto a m = refl
