-- Words that a closure makes one after the other, as a list by a rule: what `array::from_fn` and an array's `map` return.
use Prim.Native.Nat.{ℕ, zero, suc, ◌+◌, ◌<◌}
use mathlib.Core.Path.{◌≡◌, refl, sym, subst, ◌∙◌}
use mathlib.Core.List.{List}
use native.Mathlib.Nat.{add-zero, zero-add}
use native.Mathlib.Omega.{arith}
use lib.ListN.{length, get_or}
use lib.Seq.{ext_get_or}
use denote.Param.Members.{Mut, Called}
use Rattle.std.specs.Array.{IsFromFnResultFrom, IsFromFnResult, MapsFrom, IsMapOf}
use Rattle.lanes.specs.Lists.{list_of}
use Rattle.lanes.proofs.Lists.{list_length, list_at}

-- a list is by a rule where each of its places is
pub by_places : (n : ℕ) (rule : ℕ → ℕ) (ys : List ℕ) → length ys ≡ n → ((k : ℕ) → k < n → get_or ys k 0 ≡ rule k) → ys ≡ list_of n rule
by_places n rule ys long each =
    ext_get_or 0 ys (list_of n rule) (long ∙ sym (list_length n rule))
    (λ k h. let l : k < n = omega arith in each k l ∙ sym (list_at n rule k l))

module _ {F : Type 0} (g : Mut F (ℕ × Unit {0}) ℕ) (f : F) (n : ℕ) (rule : ℕ → ℕ) where
  module _ (call : (i y : ℕ) (q : F) → i < n → Called g f (i, tt) y q → (q ≡ f) × (y ≡ rule i)) where
    counted : (left i : ℕ) (ys : List ℕ) (p : F) → p ≡ f → i + left ≡ n → IsFromFnResultFrom g p ys i left
        → (k : ℕ) → k < left → get_or ys (i + k) 0 ≡ rule (i + k)
    counted zero i ys p e all m k h = absurd (omega arith)
    counted (suc left) i ys p e all m zero h =
        rw (add-zero i) (m.2.1 0 ∙ (call i m.1 m.0 (omega arith) (subst (λ (s : F). Called g s (i, tt) m.1 m.0) e m.3)).1)
    counted (suc left) i ys p e all m (suc k) h =
        let place : i + 1 + k ≡ i + suc k = omega arith in
        let same = (call i m.1 m.0 (omega arith) (subst (λ (s : F). Called g s (i, tt) m.1 m.0) e m.3)).0 in
        subst (λ (j : ℕ). get_or ys j 0 ≡ rule j) place (counted left (i + 1) ys m.0 same (omega arith) m.4 k (omega arith))

  from_fn_places : (ys : List ℕ) → IsFromFnResult g f ys n
      → ((i y : ℕ) (q : F) → i < n → Called g f (i, tt) y q → (q ≡ f) × (y ≡ rule i)) → ys ≡ list_of n rule
  from_fn_places ys made call =
      by_places n rule ys made.long (λ k h. rw (← zero-add k) (counted call n 0 ys f refl (zero-add n) made.each k h))

  module _ (xs : List ℕ) (call : (i y : ℕ) (q : F) → i < n → Called g f (get_or xs i 0, tt) y q → (q ≡ f) × (y ≡ rule i)) where
    mapped : (left i : ℕ) (ys : List ℕ) (p : F) → p ≡ f → i + left ≡ n → MapsFrom g p xs ys i left
        → (k : ℕ) → k < left → get_or ys (i + k) 0 ≡ rule (i + k)
    mapped zero i ys p e all m k h = absurd (omega arith)
    mapped (suc left) i ys p e all m zero h =
        let made = subst (λ (x : ℕ). Called g f (x, tt) m.2 m.0) (sym (m.3.1 0)) (subst (λ (s : F). Called g s (m.1, tt) m.2 m.0) e m.5) in
        rw (add-zero i) (m.4.1 0 ∙ (call i m.2 m.0 (omega arith) made).1)
    mapped (suc left) i ys p e all m (suc k) h =
        let made = subst (λ (x : ℕ). Called g f (x, tt) m.2 m.0) (sym (m.3.1 0)) (subst (λ (s : F). Called g s (m.1, tt) m.2 m.0) e m.5) in
        let place : i + 1 + k ≡ i + suc k = omega arith in
        subst (λ (j : ℕ). get_or ys j 0 ≡ rule j) place
        (mapped left (i + 1) ys m.0 (call i m.2 m.0 (omega arith) made).0 (omega arith) m.6 k (omega arith))

  map_places : (xs ys : List ℕ) → IsMapOf g f xs ys n
      → ((i y : ℕ) (q : F) → i < n → Called g f (get_or xs i 0, tt) y q → (q ≡ f) × (y ≡ rule i)) → ys ≡ list_of n rule
  map_places xs ys made call =
      by_places n rule ys made.long (λ k h. rw (← zero-add k) (mapped xs call n 0 ys f refl (zero-add n) made.each k h))

module _ {F : Type 0} {g : Mut F (ℕ × Unit {0}) ℕ} {f : F} {n : ℕ} {rule : ℕ → ℕ} {ys : List ℕ} where
  -- `array::from_fn(f)`, where a call at i leaves f as it was and returns the rule's word at i
  pub from_fn_list : IsFromFnResult g f ys n → ((i y : ℕ) (q : F) → i < n → Called g f (i, tt) y q → (q ≡ f) × (y ≡ rule i)) → ys ≡ list_of n rule
  from_fn_list made call = from_fn_places g f n rule ys made call

  -- `xs.map(f)`, where a call at word i leaves f as it was and returns the rule's word at i
  pub map_list : {xs : List ℕ} → IsMapOf g f xs ys n
      → ((i y : ℕ) (q : F) → i < n → Called g f (get_or xs i 0, tt) y q → (q ≡ f) × (y ≡ rule i)) → ys ≡ list_of n rule
  map_list {xs} made call = map_places g f n rule xs ys made call
