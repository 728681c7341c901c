-- A loop through the places of a word: `for k in places_of(word)`.
use Prim.Native.Nat.{ℕ, zero, suc}
use mathlib.Core.Path.{◌≡◌, refl, sym, ap, subst, ◌∙◌}
use mathlib.Core.Bool.{Bool, true, false, cond}
use mathlib.Core.List.{List, [], ◌∷◌}
use native.Mathlib.Nat.{not-suc-le-zero, le_of_suc-le-suc, zero-lt-suc}
use Rattle.std.proofs.Common.{suc-le-suc}
use Rattle.std.specs.List.{All}
use Rattle.std.proofs.lemmas.List.Elements.{All-append}
use Rattle.relation.specs.Sets.{has}
use Rattle.lanes.specs.Places.{places_below, places, in_turn, visited}

-- the word has each of its places
all_below : (n m : ℕ) → All (λ k. has m k ≡ true) (places_below n m)
unfolding places_below
all_below zero m = λ k d h. absurd (not-suc-le-zero h)
all_below (suc n) m = All-append (λ k. has m k ≡ true) (places_below n m) (cond (has m n) (n ∷ []) []) (all_below n m) (go (has m n) refl)
  where
    go : (b : Bool) → has m n ≡ b → All (λ k. has m k ≡ true) (cond b (n ∷ []) [])
    go true e zero d h = e
    go true e (suc k) d h = absurd (not-suc-le-zero (le_of_suc-le-suc h))
    go false e k d h = absurd (not-suc-le-zero h)

-- what a loop that takes a step at each place keeps: `now` is where it is, `left` has the places that are still to come
module _ {A : Type 0} (step : A → ℕ → A) (start : A) (word : ℕ) where
  pub record Turning (now : A) (left : List ℕ) : Type 0 where
    pub among : All (λ k. has word k ≡ true) left
    pub comes : in_turn step now left ≡ visited step start word

  pub turning_start : (left : List ℕ) → left ≡ places word → Turning start left
  unfolding visited places
  turning_start left e = record {
    among = subst (All (λ k. has word k ≡ true)) (sym e) (all_below 64 word);
    comes = ap (in_turn step start) e;
  }

  pub turning_has : (now : A) (left rest : List ℕ) (k : ℕ) → Turning now left → left ≡ k ∷ rest → has word k ≡ true
  turning_has now left rest k t e = subst (All (λ k. has word k ≡ true)) e t.among zero k (zero-lt-suc _)

  pub turning_next : (now next : A) (left rest : List ℕ) (k : ℕ) → Turning now left → left ≡ k ∷ rest → next ≡ step now k → Turning next rest
  unfolding in_turn
  turning_next now next left rest k t e q = record {
    among = λ j d h. subst (All (λ k. has word k ≡ true)) e t.among (suc j) d (suc-le-suc h);
    comes = ap (λ (a : A). in_turn step a rest) q ∙ sym (ap (in_turn step now) e) ∙ t.comes;
  }

  pub turning_end : (now : A) (left : List ℕ) → Turning now left → left ≡ [] → now ≡ visited step start word
  unfolding in_turn
  turning_end now left t e = sym (ap (in_turn step now) e) ∙ t.comes
