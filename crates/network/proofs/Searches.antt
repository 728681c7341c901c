-- Cells that are read and searches that are made in areas of n² bytes are those of the matrix that stands there.
use mathlib.Core.Path.{◌≡◌, refl, ap, ap₂, ◌∙◌}
use mathlib.Core.Bool.{Bool, true, false, not}
use mathlib.Core.List.{List}
use Prim.Native.Nat.{ℕ, ◌*◌, ◌≤◌, ◌<◌}
use native.Mathlib.Omega.{arith}
use lib.Dec.{eqb, leb}
use borrow.Author.Tests.{lt-ltb, le-ltb, le-leb, lt-leb}
use lib.ListN.{length}
use Rattle.std.specs.Prelude.{Some, None, MatchBool, position}
use Rattle.lists.specs.Least.{least, found_below}
use Rattle.lists.proofs.LeastLaws.{least-is, least_gone}
use Rattle.lists.proofs.Splits.{split_lt}
use Rattle.matrix.specs.Square.{Square}
use Rattle.matrix.specs.Cells.{cell, cell_or_empty, first_empty}
use Rattle.matrix.proofs.CellLaws.{cell-there}
use Rattle.matrix.proofs.Searches.{empty_found, none_found}

-- a cell of the matrix is there
pub cell_in : {n : ℕ} {m : List ℕ} {i j x : ℕ} → Square n m → i < n → j < n → x ≡ cell_or_empty n m i j → x ≡ cell n m i j
cell_in {m = m} square hi hj e = e ∙ cell-there m square.few hi hj

-- the first empty cell of an area where the matrix was made, or that there is none
module _ (n : ℕ) {m area : List ℕ} (made : area ≡ m) (size : length m ≡ n * n) where
  first_there : first_empty (length area) area ≡ first_empty (n * n) m
  first_there = ap₂ first_empty (ap length made ∙ size) made

  pub empty_in : {p : ℕ} → Some p ≡ position (λ cell. eqb cell 0) area → (p ≡ first_empty (n * n) m) × (p < n * n)
  empty_in e = let h = empty_found area e in (h.0 ∙ first_there, omega (arith, h.1, ap length made ∙ size))

  pub none_in : None ≡ position (λ cell. eqb cell 0) area → n * n ≤ first_empty (n * n) m
  none_in e = omega (arith, none_found area e, first_there, ap length made ∙ size)

-- ---- over places below n

-- all of them pass where none is the least that does not
pub all_pass : (n : ℕ) (test : ℕ → Bool) (r : Bool)
    → MatchBool r ((k : ℕ) → k < n → test k ≡ true) ((k : ℕ) × (k < n) × (test k ≡ false))
    → r ≡ leb n (least n (λ k. not (test k)))
all_pass n test true h =
    let e : n ≡ least n (λ k. not (test k)) = least_gone n (λ k. not (test k)) n refl (λ k l. ap not (h k l)) in
    rw (← e, le-leb n n (omega arith)) refl
all_pass n test false h =
    let is = least-is n (λ k. not (test k)) in
    let p : ℕ = least n (λ k. not (test k)) in
    split_lt h.0 p (λ l. absurd (clash (is.before h.0 l) h.2)) (λ l. rw (lt-leb n p (omega (arith, h.1))) refl)
  where
    clash : {b : Bool} → not b ≡ false → b ≡ false → ⊥
    clash e f = cc

-- a place below n is found, and a place past it is none
pub found_at : (n p q : ℕ) → q ≡ p → q < n → Some q ≡ found_below n p
found_at n p q e h = rw (← e, lt-ltb q n h) refl

pub found_past : (n p : ℕ) → n ≤ p → None ≡ found_below n p
found_past n p h = rw (le-ltb p n h) refl
