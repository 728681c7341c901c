-- The compositions through one place after the other: their intersection, and a cell that runs empty with them.
use mathlib.Core.Path.{◌≡◌, sym, ap₂, ◌∙◌}
use mathlib.Core.Bool.{Bool, true, false}
use mathlib.Core.List.{List}
use Prim.Native.Nat.{ℕ, suc, ◌+◌, ◌≤◌, ◌<◌}
use native.Mathlib.Numerals.{add-one}
use native.Mathlib.Omega.{arith}
use lib.Dec.{eqb}
use Rattle.lists.proofs.LeastLaws.{least-here, least_gone, below_next}
use Rattle.relation.specs.Sets.{intersect}
use Rattle.relation.specs.Composition.{compose}
use Rattle.relation.specs.Lent.{listed, compose_by}
use Rattle.relation.proofs.Within.{intersect_assoc, byte_within_universal}
use Rattle.relation.proofs.CompositionLaws.{compose-listed}
use Rattle.matrix.specs.Cells.{cell}
use Rattle.refinement.specs.Round.{through, ran_out}

-- two sets composed by the listed entries
pub composed_by_listed : {entries : List ℕ} {a b x y r : ℕ} → entries ≡ listed → x < 256 → x ≡ a → y ≡ b → r ≡ compose_by entries x y
    → r ≡ compose a b
composed_by_listed {x = x} {y = y} e byte f g h = h ∙ rw (← f, ← g, e) (compose-listed x y byte)

-- (i, j) intersected with the compositions through the places below k, and that it was not empty at any of them
pub record Running (n : ℕ) (m : List ℕ) (i j k set : ℕ) : Type 0 where
  pub within : k ≤ n
  pub held : set ≡ intersect (cell n m i j) (through n m i j k)
  pub filled : (x : ℕ) → x < k → eqb (intersect (cell n m i j) (through n m i j (suc x))) 0 ≡ false

pub running_starts : (n : ℕ) (m : List ℕ) (i j set : ℕ) → set ≡ cell n m i j → cell n m i j < 256 → Running n m i j 0 set
unfolding through
running_starts n m i j set e h = record {
  within = omega arith;
  held = e ∙ sym (byte_within_universal (cell n m i j) h).meets;
  filled = λ x l. absurd (omega arith);
}

module _ {n : ℕ} {m : List ℕ} {i j k set : ℕ} (now : Running n m i j k set) where
  -- no place was left where it could have run empty
  pub running_ends : n ≤ k → k ≡ ran_out n m i j
  unfolding ran_out
  running_ends l = least_gone n _ k (omega arith) now.filled

  module _ (inside : k < n) (along next : ℕ) (f : along ≡ compose (cell n m i k) (cell n m k j)) (g : next ≡ intersect set along) where
    with_one_more : next ≡ intersect (cell n m i j) (through n m i j (suc k))
    unfolding through
    with_one_more =
        g ∙ ap₂ intersect now.held f
        ∙ intersect_assoc (cell n m i j) (through n m i j k) (compose (cell n m i k) (cell n m k j))

    -- it has run empty at k
    pub running_out : (test : Bool) → test ≡ eqb next 0 → test ≡ true → k ≡ ran_out n m i j
    unfolding ran_out
    running_out test t e = least-here n _ k inside now.filled (rw (← with_one_more, ← t) e)

    -- it has not
    pub running_on : (test : Bool) → test ≡ eqb next 0 → test ≡ false → Running n m i j (k + 1) next
    running_on test t e = record {
      within = omega arith;
      held = rw (add-one k) with_one_more;
      filled = below_next _ k now.filled (rw (← with_one_more, ← t) e);
    }
