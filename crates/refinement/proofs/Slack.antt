-- What is left to lose in a matrix: it is at most the document's bound on rounds, and every round that changes something makes
-- it less.
use mathlib.Core.Path.{◌≡◌, refl, sym, ap, ◌∙◌, subst}
use mathlib.Core.List.{List}
use Prim.Native.Nat.{ℕ, zero, suc, ◌+◌, ◌-◌, ◌*◌, ◌/◌, ◌≤◌, ◌<◌}
use native.Mathlib.Nat.{zero-lt-suc, add-mul-div_right, le_trans, le_of_eq, mul-le-mul}
use native.Mathlib.Omega.{arith}
use Rattle.lists.proofs.Splits.{split_lt}
use Rattle.relation.specs.Sets.{size}
use Rattle.relation.specs.Converse.{converse}
use Rattle.relation.proofs.Within.{within-byte}
use Rattle.relation.proofs.Size.{size-within, size_within_less, size-some, size-most}
use Rattle.matrix.specs.Cells.{cell}
use Rattle.matrix.proofs.CellLaws.{Change}
use Rattle.lists.proofs.Sums.{sum_to, sum_le, sum_lt, sum_constant}
use Rattle.refinement.specs.Refine.{most_rounds}
use Rattle.refinement.specs.Network.{Below}
use Rattle.refinement.specs.Plain.{Bytes, Filled, Plain}

-- for each i < j, the members of (i, j) but one
unfoldable pub slack : ℕ → List ℕ → ℕ
slack n m = sum_to n (λ j. sum_to j (λ i. size (cell n m i j) - 1))

-- ---- at most 7 for each pair

triangle : (n : ℕ) → suc n * n / 2 ≡ n * (n - 1) / 2 + n
triangle zero = refl
triangle (suc k) = ap (λ (x : ℕ). x / 2) (split k) ∙ add-mul-div_right (suc k * (suc k - 1)) (suc k) {z = 2} (zero-lt-suc 1)
  where
    split : (k : ℕ) → suc (suc k) * suc k ≡ suc k * (suc k - 1) + suc k * 2
    split k = let e : suc k - 1 ≡ k = omega arith in rw e (omega arith)

sevens : (n : ℕ) → sum_to n (λ j. sum_to j (λ i. 7)) ≡ most_rounds n
unfolding sum_to most_rounds
sevens zero = refl
sevens (suc n) =
    let t = triangle n in
    let s = sum_constant n 7 in
    let r = sevens n in
    let e : suc n - 1 ≡ n = omega arith in
    rw e (omega arith)

pub slack_most : (n : ℕ) (m : List ℕ) → slack n m ≤ most_rounds n
unfolding slack
slack_most n m =
    le_trans
    (sum_le n (λ j. sum_to j (λ i. size (cell n m i j) - 1)) (λ j. sum_to j (λ i. 7))
    (λ j hj. sum_le j (λ i. size (cell n m i j) - 1) (λ i. 7) (λ i hi. omega (arith, size-most (cell n m i j)))))
    (le_of_eq (sevens n))

-- with at most 64 regions the bound is a small number
pub most_rounds_le : (n : ℕ) → n ≤ 64 → most_rounds n ≤ 14112
unfolding most_rounds
most_rounds_le n h =
    let less : n - 1 ≤ 63 = omega arith in
    let all : n * (n - 1) ≤ 64 * 63 = mul-le-mul h less in
    omega arith

-- ---- less with every change

-- a matrix within another, none of its cells empty, with another cell at some i < j, has less to lose
slack_less : (n : ℕ) (a b : List ℕ) → Below n a b → Bytes n b → Filled n a
    → (i j : ℕ) → i < j → j < n → (cell n a i j ≡ cell n b i j → ⊥) → slack n a < slack n b
unfolding slack
slack_less n a b B A F i j hi hj d =
    sum_lt n (λ j. sum_to j (λ i. size (cell n a i j) - 1)) (λ j. sum_to j (λ i. size (cell n b i j) - 1))
    (λ j hj. sum_le j (λ i. size (cell n a i j) - 1) (λ i. size (cell n b i j) - 1) (fewer j hj))
    j hj
    (sum_lt j (λ i. size (cell n a i j) - 1) (λ i. size (cell n b i j) - 1) (fewer j hj) i hi
    (omega (
      arith,
      size_within_less (B.cells i j (omega arith) hj) (A.byte i j (omega arith) hj) d,
      size-some (cell n a i j) (below-byte i j (omega arith) hj) (F.filled i j (omega arith) hj),
    )))
  where
    fewer : (j : ℕ) → j < n → (i : ℕ) → i < j → size (cell n a i j) - 1 ≤ size (cell n b i j) - 1
    fewer j hj i hi = omega (arith, size-within (B.cells i j (omega arith) hj))

    below-byte : (i j : ℕ) → i < n → j < n → cell n a i j < 256
    below-byte i j hi hj = within-byte (B.cells i j hi hj) (A.byte i j hi hj)

-- a change below the diagonal is one above it too, and on the diagonal there is none
pub slack_falls : (n : ℕ) (a b : List ℕ) → Plain n a → Plain n b → Below n a b → Change n a b → slack n a < slack n b
slack_falls n a b P Q B c =
    let i : ℕ = c.first in
    let j : ℕ = c.second in
    let hi : i < n = c.first_lt in
    let hj : j < n = c.second_lt in
    split_lt i j
    (λ l. slack_less n a b B Q.bytes P.full i j l hj c.differs)
    (λ l. split_lt j i
    (λ u. slack_less n a b B Q.bytes P.full j i u hi
    (λ e. c.differs (P.opposite i j hi hj ∙ ap converse e ∙ sym (Q.opposite i j hi hj))))
    (λ u.
    let e : j ≡ i = omega arith in
    absurd (subst (λ (x : ℕ). cell n a i x ≡ cell n b i x → ⊥) e c.differs (P.diagonal i hi ∙ sym (Q.diagonal i hi)))))
