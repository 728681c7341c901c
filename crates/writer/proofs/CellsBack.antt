-- The statements that a written scene makes, one for each cell that is not 255, make those cells again.
use mathlib.Core.Path.{◌≡◌, sym, ap, ◌∙◌}
use mathlib.Core.List.{List}
use Prim.Native.Nat.{ℕ, zero, suc, ◌+◌, ◌*◌, ◌≤◌, ◌<◌}
use native.Mathlib.Omega.{arith}
use lib.ListN.{length, get_or}
use Rattle.lists.proofs.Splits.{split_lt, split_eq}
use Rattle.relation.specs.Sets.{universal, intersect}
use Rattle.relation.proofs.Within.{intersect_comm, byte_within_universal}
use Rattle.matrix.specs.Cells.{cell, row, column, grid}
use Rattle.matrix.proofs.CellLaws.{place_lt, place_div, place-mod, place-back, grid-cells, grid-same}
use Rattle.filing.specs.Stated.{stated_cell}
use Rattle.filing.proofs.StatedLaws.{stated-none, stated-here, stated_elsewhere}
use Rattle.scene.specs.Reads.{starting_cell}
use Rattle.writer.proofs.ReadBack.{statement_at, statements_of, statements_as_before, statements_and_one}

module _ (n : ℕ) (cells : List ℕ) (bytes : (p : ℕ) → get_or cells p 0 < 256) (i j : ℕ) (column-of : j < n) where
  -- another cell's statement changes nothing
  pub not_narrowed : (p : ℕ) → (p ≡ i * n + j → ⊥) → stated_cell starting_cell (statements_of (suc p) n cells) i j
      ≡ stated_cell starting_cell (statements_of p n cells) i j
  not_narrowed p h =
      split_eq (get_or cells p 0) universal
      (λ u. rw (statements_as_before n p cells u))
      (λ u. rw (statements_and_one n p cells u)
      (stated_elsewhere starting_cell (statement_at n p cells) (statements_of p n cells) i j (λ e f. h (rw (← e, ← f) (sym (place-back n p))))))

  -- its own makes it
  narrowed_once : (p : ℕ) → p ≡ i * n + j → stated_cell starting_cell (statements_of p n cells) i j ≡ universal
      → stated_cell starting_cell (statements_of (suc p) n cells) i j ≡ get_or cells p 0
  narrowed_once p e before =
      let r : i ≡ row n p = sym (ap (row n) e ∙ place_div n i j column-of) in
      let c : j ≡ column n p = sym (ap (column n) e ∙ place-mod n i j column-of) in
      split_eq (get_or cells p 0) universal
      (λ u. rw (statements_as_before n p cells u) (before ∙ sym u))
      (λ u. rw (statements_and_one n p cells u, r, c)
      (stated-here starting_cell (statement_at n p cells) (statements_of p n cells)
      ∙ ap (λ (x : ℕ). intersect x (get_or cells p 0)) (rw (r, c) at before)
      ∙ intersect_comm universal (get_or cells p 0)
      ∙ (byte_within_universal (get_or cells p 0) (bytes p)).meets))

  -- before its own it is 255
  pub unstated : (p : ℕ) → p ≤ i * n + j → stated_cell starting_cell (statements_of p n cells) i j ≡ universal
  unfolding statements_of
  unstated zero l = stated-none starting_cell i j
  unstated (suc p) l = not_narrowed p (λ e. omega arith) ∙ unstated p (omega arith)

  -- and after it what it was written from
  pub stated : (p : ℕ) → i * n + j < p → stated_cell starting_cell (statements_of p n cells) i j ≡ cell n cells i j
  stated zero l = absurd (omega arith)
  stated (suc p) l =
      split_lt (i * n + j) p
      (λ u. not_narrowed p (λ e. omega arith) ∙ stated p u)
      (λ u. let e : p ≡ i * n + j = omega arith in narrowed_once p e (unstated p u) ∙ ap (λ (k : ℕ). get_or cells k 0) e)

pub cells-back : (n : ℕ) (cells : List ℕ) → length cells ≡ n * n → ((p : ℕ) → get_or cells p 0 < 256)
    → grid n (stated_cell starting_cell (statements_of (n * n) n cells)) ≡ cells
cells-back n cells l bytes =
    grid-same n (stated_cell starting_cell (statements_of (n * n) n cells)) (cell n cells)
    (λ i j hi hj. stated n cells bytes i j hj (n * n) (place_lt n i j hi hj))
    ∙ grid-cells n cells l
