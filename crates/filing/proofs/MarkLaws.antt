-- Marks: a statement that changes its cell takes the mark, any other leaves it; a cell without a mark is as it started, and a marked one
-- was last changed by the statement of that number.
use mathlib.Core.Path.{◌≡◌, refl, sym, ap, ◌∙◌, subst}
use mathlib.Core.List.{List, [], ◌∷◌}
use Prim.Native.Nat.{ℕ, suc, ◌≤◌}
use native.Mathlib.Omega.{arith}
use borrow.Author.Tests.{eq-eqb, ne_eqb}
use lib.ListN.{length}
use Rattle.lists.proofs.Splits.{split_eq}
use Rattle.relation.specs.Sets.{Within}
use Rattle.relation.proofs.Within.{within_antisym}
use Rattle.filing.specs.Said.{Statement}
use Rattle.filing.specs.Stated.{stated_cell}
use Rattle.filing.specs.Marks.{mark_of, LastNarrowed}
use Rattle.filing.proofs.StatedLaws.{stated-none, stated_elsewhere, stated_step, stated-within}

module _ (start : ℕ → ℕ → ℕ) (i j : ℕ) where
  pub mark_stays : (s : Statement) (l : List Statement) → stated_cell start (s ∷ l) i j ≡ stated_cell start l i j
      → mark_of start (s ∷ l) i j ≡ mark_of start l i j
  unfolding mark_of
  mark_stays s l e = rw (eq-eqb (stated_cell start (s ∷ l) i j) (stated_cell start l i j) e)

  pub mark_taken : (s : Statement) (l : List Statement) → (stated_cell start (s ∷ l) i j ≡ stated_cell start l i j → ⊥)
      → mark_of start (s ∷ l) i j ≡ suc (length l)
  unfolding mark_of
  mark_taken s l d = rw (ne_eqb (stated_cell start (s ∷ l) i j) (stated_cell start l i j) d)

  -- a cell without a mark is as it started
  pub unmarked_start : (l : List Statement) → mark_of start l i j ≡ 0 → stated_cell start l i j ≡ start i j
  unmarked_start [] e = stated-none start i j
  unmarked_start (s ∷ l) e =
      split_eq (stated_cell start (s ∷ l) i j) (stated_cell start l i j)
      (λ q. q ∙ unmarked_start l (sym (mark_stays s l q) ∙ e))
      (λ d. absurd (let z : 0 ≡ suc (length l) = sym e ∙ mark_taken s l d in omega arith))

  -- and a cell as it started has none, since no statement adds to a cell
  pub start_unmarked : (l : List Statement) → stated_cell start l i j ≡ start i j → mark_of start l i j ≡ 0
  unfolding mark_of
  start_unmarked [] e = refl
  start_unmarked (s ∷ l) e =
      let before : stated_cell start l i j ≡ start i j =
      within_antisym (stated-within start l i j) (subst (λ (x : ℕ). Within x (stated_cell start l i j)) e (stated_step start s l i j)) in
      mark_stays s l (e ∙ sym before) ∙ start_unmarked l before

  -- a mark tells the statement that narrowed the cell last
  pub marked-last : (l : List Statement) → (mark_of start l i j ≡ 0 → ⊥) → LastNarrowed start l i j (mark_of start l i j)
  unfolding mark_of
  marked-last [] d = absurd (d refl)
  marked-last (s ∷ l) d =
      split_eq (stated_cell start (s ∷ l) i j) (stated_cell start l i j)
      (λ e.
      let before = marked-last l (λ z. d (mark_stays s l e ∙ z)) in
      record {
        later = s ∷ before.later;
        latest = before.latest;
        earlier = before.earlier;
        among = ap (λ (x : List Statement). s ∷ x) before.among;
        number = mark_stays s l e ∙ before.number;
        from_here = before.from_here;
        to_there = before.to_there;
        removes = before.removes;
        last = e ∙ before.last;
      })
      (λ n. record {
        later = [];
        latest = s;
        earlier = l;
        among = refl;
        number = mark_taken s l n;
        from_here = split_eq s.from i (λ e. e) (λ x. absurd (n (stated_elsewhere start s l i j (λ a b. x a))));
        to_there = split_eq s.to j (λ e. e) (λ x. absurd (n (stated_elsewhere start s l i j (λ a b. x b))));
        removes = n;
        last = refl;
      })

  -- no number is above that of all statements
  pub mark_few : (l : List Statement) → mark_of start l i j ≤ length l
  unfolding mark_of
  mark_few [] = omega arith
  mark_few (s ∷ l) =
      split_eq (stated_cell start (s ∷ l) i j) (stated_cell start l i j)
      (λ e. omega (arith, mark_stays s l e, mark_few l))
      (λ d. omega (arith, mark_taken s l d))
