-- What `least` is, that nothing else is it, and how a loop that looks for it ends.
use mathlib.Core.Path.{◌≡◌, refl, sym, ◌∙◌, subst}
use mathlib.Core.Bool.{Bool, true, false, cond, true≢false}
use Prim.Native.Nat.{ℕ, zero, suc, ◌+◌, ◌≤◌, ◌<◌}
use native.Mathlib.Omega.{arith}
use Rattle.lists.specs.Least.{least_from, least}
use Rattle.lists.proofs.Splits.{split_lt}

-- not past n; no place before it passes; it passes if it is below n
pub record Least (n : ℕ) (test : ℕ → Bool) (r : ℕ) : Type 0 where
  pub within : r ≤ n
  pub before : (k : ℕ) → k < r → test k ≡ false
  pub found : r < n → test r ≡ true

-- the same from `start` on
record LeastFrom (count start : ℕ) (test : ℕ → Bool) (r : ℕ) : Type 0 where
  above : start ≤ r
  within : r ≤ start + count
  before : (k : ℕ) → start ≤ k → k < r → test k ≡ false
  found : r < start + count → test r ≡ true

least_step : (count start : ℕ) (test : ℕ → Bool) (r : ℕ) (b : Bool) → test start ≡ b → LeastFrom count (suc start) test r
    → LeastFrom (suc count) start test (cond b start r)
least_step count start test r true e rest =
    record { above = omega arith; within = omega arith; before = λ k a b. absurd (omega arith); found = λ h. e }
least_step count start test r false e rest =
    let a : suc start ≤ r = rest.above in
    record {
      above = omega arith;
      within = omega arith;
      before = λ k a b. split_lt start k (λ l. rest.before k l b) (λ l. subst (λ (x : ℕ). test x ≡ false) (omega arith) e);
      found = λ h. rest.found (omega arith);
    }

least-from : (count start : ℕ) (test : ℕ → Bool) → LeastFrom count start test (least_from count start test)
unfolding least_from
least-from zero start test =
    record {
      above = omega arith;
      within = omega arith;
      before = λ k a b. absurd (omega arith);
      found = λ h. absurd (omega arith);
    }
least-from (suc count) start test =
    least_step count start test (least_from count (suc start) test) (test start) refl (least-from count (suc start) test)

pub least-is : (n : ℕ) (test : ℕ → Bool) → Least n test (least n test)
unfolding least
least-is n test =
    let h = least-from n 0 test in
    record { within = omega arith; before = λ k l. h.before k (omega arith) l; found = λ l. h.found (omega arith) }

clash : (n : ℕ) (test : ℕ → Bool) (r q : ℕ) → Least n test r → Least n test q → r < q → ⊥
clash n test r q a b l = true≢false (sym (a.found (omega arith)) ∙ b.before r l)

-- there is only one
pub least_one : (n : ℕ) (test : ℕ → Bool) (r q : ℕ) → Least n test r → Least n test q → r ≡ q
least_one n test r q a b =
    split_lt r q (λ l. absurd (clash n test r q a b l))
    (λ l. split_lt q r (λ m. absurd (clash n test q r b a m)) (λ m. omega arith))

-- a search that ends at the first place that passes has found it
pub least-here : (n : ℕ) (test : ℕ → Bool) (p : ℕ) → p < n → ((k : ℕ) → k < p → test k ≡ false) → test p ≡ true
    → p ≡ least n test
least-here n test p l before e =
    least_one n test p (least n test) (record { within = omega arith; before = before; found = λ _. e }) (least-is n test)

-- and so has one that ends past the last
pub least_gone : (n : ℕ) (test : ℕ → Bool) (p : ℕ) → p ≡ n → ((k : ℕ) → k < p → test k ≡ false) → p ≡ least n test
least_gone n test p q before =
    least_one n test p (least n test) (record { within = omega arith; before = before; found = λ l. absurd (omega arith) })
    (least-is n test)

-- one place more that does not pass
pub below_next : (test : ℕ → Bool) (p : ℕ) → ((k : ℕ) → k < p → test k ≡ false) → test p ≡ false
    → (k : ℕ) → k < p + 1 → test k ≡ false
below_next test p before e k l =
    split_lt k p (λ u. before k u) (λ u. subst (λ (x : ℕ). test x ≡ false) (omega arith) e)

-- tests that agree at every place below n have the same least place
pub least-same : (n : ℕ) (test other : ℕ → Bool) → ((k : ℕ) → k < n → test k ≡ other k) → least n test ≡ least n other
least-same n test other same =
    let M = least-is n test in
    least_one n other (least n test) (least n other)
    (record {
      within = M.within;
      before = λ k l. sym (same k (omega arith)) ∙ M.before k l;
      found = λ l. sym (same (least n test) l) ∙ M.found l;
    })
    (least-is n other)
