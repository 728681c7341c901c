-- A list with one and the same entry after it, and with zeros: its length and its entries.
use Rattle.std.proofs.Common.{◌≡◌, refl, sym, ◌∙◌, arith, List, ◌++◌, ℕ, zero, suc, ◌+◌, ◌-◌, ◌≤◌, ◌<◌, length, get_or, replicate, take}
use lib.ListN.{length-append, length-replicate, get_or-append, get_or-eq_default}
use lib.Seq.{get_or-append-add, take_at}
use mathlib.Core.Path.{subst}
use Rattle.lists.proofs.Splits.{split_lt}
use Rattle.filing.specs.Areas.{padded_with, padded}

get_or-same : {A : Type 0} (entry : A) (count k : ℕ) → get_or (replicate count entry) k entry ≡ entry
get_or-same entry zero k = refl
get_or-same entry (suc count) zero = refl
get_or-same entry (suc count) (suc k) = get_or-same entry count k

get_or-zeros : (count k : ℕ) → get_or (replicate {A = ℕ} count 0) k 0 ≡ 0
get_or-zeros = get_or-same 0

module _ {A : Type 0} (entry : A) (size : ℕ) (l : List A) where
  pub length-padded_with : length l ≤ size → length (padded_with entry size l) ≡ size
  length-padded_with h = simp (length-append, length-replicate) (omega arith)

  pub padded_with_in : (k : ℕ) → k < length l → get_or (padded_with entry size l) k entry ≡ get_or l k entry
  padded_with_in k h = get_or-append l (replicate (size - length l) entry) entry k h

  pub padded_with_past : (k : ℕ) → length l ≤ k → get_or (padded_with entry size l) k entry ≡ entry
  padded_with_past k h =
      let behind : List A = replicate (size - length l) entry in
      let there : length l + (k - length l) ≡ k = omega arith in
      subst (λ (x : ℕ). get_or (l ++ behind) x entry ≡ entry) there
      (get_or-append-add l behind (k - length l) entry ∙ get_or-same entry (size - length l) (k - length l))

module _ (size : ℕ) (l : List ℕ) where
  pub length-padded : length l ≤ size → length (padded size l) ≡ size
  length-padded h = length-padded_with 0 size l h

  pub padded_in : (k : ℕ) → k < length l → get_or (padded size l) k 0 ≡ get_or l k 0
  padded_in k h = padded_with_in 0 size l k h

  pub padded_past : (k : ℕ) → length l ≤ k → get_or (padded size l) k 0 ≡ 0
  padded_past k h = padded_with_past 0 size l k h

  -- no entry tells a padded list from the list
  pub padded-same : (k : ℕ) → get_or (padded size l) k 0 ≡ get_or l k 0
  padded-same k = split_lt k (length l) (λ h. padded_in k h) (λ h. padded_past k h ∙ sym (get_or-eq_default l 0 {n = k} h))

-- the entries that count are the list
pub padded_front : (size : ℕ) {n : ℕ} (l : List ℕ) {area : List ℕ} → length l ≡ n → area ≡ padded size l → take n area ≡ l
padded_front size {n} l h e = rw e (take_at l (replicate (size - length l) 0) n h)
