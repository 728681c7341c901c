-- From the fronts of the lent areas to the areas, and calls that leave them as they are.
use mathlib.Core.Path.{◌≡◌, refl, sym, ◌∙◌, subst}
use mathlib.Core.Bool.{Bool, true, false, cond}
use mathlib.Core.List.{List, ◌++◌, append-nil}
use Prim.Native.Nat.{ℕ, zero, suc, ◌*◌, ◌≤◌, ◌<◌}
use native.Mathlib.Nat.{mul-le-mul}
use native.Mathlib.Omega.{arith}
use lib.Dec.{eqb, ltb}
use lib.ListN.{length, take, drop, replicate, take-append-drop, length-take, drop_of_length-le}
use lib.Seq.{length-take-le}
use borrow.Author.Tests.{le-leb, lt-leb}
use Rattle.std.specs.Prelude.{Result, Ok, Err}
use Rattle.answer.specs.Answer.{Answer, answer}
use Rattle.lists.specs.Laid.{laid}
use Rattle.answer.specs.Ending.{Ending, accepted, refused}
use Rattle.lists.proofs.Splits.{by_test, split_lt, split_eq}
use Rattle.matrix.specs.Square.{in_range, Square}
use Rattle.matrix.proofs.CellLaws.{range_holds}
use Rattle.refinement.specs.Run.{readied, ran}
use Rattle.refinement.specs.InRange.{InRange}
use Rattle.refinement.proofs.Limits.{limits_follow, ran_outside, ran_short_first, ran_short_second}
use Rattle.refinement.proofs.Readied.{readied_outside, readied_wrong_cells, readied_short_first, readied_short_second}
use Rattle.network.specs.declared.Unrefined.{Unrefined}
use Rattle.network.specs.declared.Unrefined.TheVariants.{OutOfRange, WrongLength}
use Rattle.network.specs.declared.Area.{Area}
use Rattle.network.specs.declared.Area.TheVariants.{First, Second}
use Rattle.network.specs.Verdict.{Verdict, Start}
use Rattle.network.specs.Areas.{chosen, same_area, holds}
use Rattle.network.specs.Numbers.{answer_of, answer_of_start}
use Rattle.network.specs.Refined.{leaves}
use Rattle.network.specs.Prepared.{leaves_second, Prepared}
use Rattle.network.specs.Ran.{NamesFrom, round_before, used_up, left_by, starts_from, ran_from, Ran}
use Rattle.network.specs.Inner.{size_within, started_with, Readies, rounds_or, Meets}

-- as many cells as there may be
pub cells_fit : (n : ℕ) (tested : Bool) → tested ≡ in_range n → tested ≡ true → n * n ≤ 4096
cells_fit n tested e t = let few = (range_holds n (sym e ∙ t)).1 in omega (arith, mul-le-mul few few)

-- ---- the tests that the calls have in common

-- by what they find
by_size : (P : Result ℕ Unrefined → Type 0) (n first second : ℕ) → (in_range n ≡ false → P (Err OutOfRange))
    → (in_range n ≡ true → first < n * n → P (Err WrongLength))
    → (in_range n ≡ true → n * n ≤ first → second < n * n → P (Err WrongLength))
    → (in_range n ≡ true → n * n ≤ first → n * n ≤ second → P (Ok (n * n))) → P (size_within n first second)
by_size P n first second outside short_first short_second inside =
    by_test (in_range n)
    (λ e. split_lt first (n * n) (λ h. rw (e, lt-leb (n * n) first h) (short_first e h))
    (λ u. split_lt second (n * n) (λ h. rw (e, le-leb (n * n) first u, lt-leb (n * n) second h) (short_second e u h))
    (λ v. rw (e, le-leb (n * n) first u, le-leb (n * n) second v) (inside e u v))))
    (λ e. rw e (outside e))

-- what holds of a size, and of each refusal
abbrev Either : (ℕ → Type 0) → (Unrefined → Type 0) → Result ℕ Unrefined → Type 0
Either served refuses (Ok size) = served size
Either served refuses (Err unrefined) = refuses unrefined

-- the size is that of the matrix, and both areas have it
pub size_served : (n first second size : ℕ) → size_within n first second ≡ Ok size
    → (size ≡ n * n) × (in_range n ≡ true) × (n * n ≤ first) × (n * n ≤ second)
size_served n first second size e =
    let P : Result ℕ Unrefined → Type 0 =
    Either (λ k. (k ≡ n * n) × (in_range n ≡ true) × (n * n ≤ first) × (n * n ≤ second)) (λ _. Unit {0}) in
    subst P e (by_size P n first second (λ _. tt) (λ _ _. tt) (λ _ _ _. tt) (λ i u v. (refl, i, u, v)))

-- the front of such an area is a matrix
pub square_front : (n : ℕ) (area : List ℕ) → in_range n ≡ true → n * n ≤ length area → Square n (take (n * n) area)
square_front n area e u =
    let r = range_holds n e in record { some = r.0; few = r.1; size = length-take-le _ _ u }

-- laid over the front, with the rest as it was, is laid over the whole
laid_over_front : (k : ℕ) (filled area : List ℕ) → laid k filled (take k area) ++ drop k area ≡ laid k filled area
unfolding laid
laid_over_front k filled area =
    rw (drop_of_length-le (take k area) {i = k} (omega (arith, length-take k area)), append-nil (take k filled))

-- ---- preparation

leaves_front : (n : ℕ) (ending : Ending (List ℕ)) (area : List ℕ) → leaves n ending (take (n * n) area) ++ drop (n * n) area ≡ leaves n ending area
unfolding leaves
leaves_front n (accepted network count) area = laid_over_front (n * n) network area
leaves_front n (refused numbers) area = go (ltb numbers.number 21)
  where
    go : (b : Bool)
        → cond b (take (n * n) area) (laid (n * n) (replicate (n * n) 0) (take (n * n) area)) ++ drop (n * n) area
        ≡ cond b area (laid (n * n) (replicate (n * n) 0) area)
    go true = take-append-drop (n * n) area
    go false = laid_over_front (n * n) (replicate (n * n) 0) area

second_front : (n : ℕ) (ending : Ending (List ℕ)) (area : List ℕ)
    → leaves_second n ending (take (n * n) area) ++ drop (n * n) area ≡ leaves_second n ending area
unfolding leaves_second
second_front n (accepted network count) area = take-append-drop (n * n) area
second_front n (refused numbers) area = leaves_front n (refused numbers) area

-- what preparation left in the fronts, with the rest as it was
pub prepared_fronts : (n : ℕ) (cells first second first' second' : List ℕ) (start : Start) → InRange n cells (length first) (length second)
    → Readies n (started_with n cells) (take (n * n) first) (take (n * n) second) first' second' start
    → Prepared n cells first second (first' ++ drop (n * n) first) (second' ++ drop (n * n) second) start
unfolding readied
prepared_fronts n cells first second first' second' start range e =
    let same : readied n cells (length first) (length second) ≡ started_with n cells = limits_follow range (λ _. started_with n cells) in
    record {
      answer = rw same e.answer;
      in_first = rw (same, e.in_first) (leaves_front n (started_with n cells) first);
      in_second = rw (same, e.in_second) (second_front n (started_with n cells) second);
    }

-- a preparation that is refused before it starts leaves both areas
pub prepared_untouched : (n : ℕ) (cells first second : List ℕ) (numbers : Answer) (start : Start)
    → readied n cells (length first) (length second) ≡ refused numbers → answer_of_start start ≡ numbers
    → ltb numbers.number 21 ≡ true → Prepared n cells first second first second start
unfolding leaves leaves_second
prepared_untouched n cells first second numbers start e a b = record { answer = rw e a; in_first = rw (e, b); in_second = rw (e, b) }

-- so is one that the common tests refuse
pub prepared_refused : (n : ℕ) (cells first second : List ℕ) (unrefined : Unrefined)
    → size_within n (length first) (length second) ≡ Err unrefined → Prepared n cells first second first second (Err unrefined)
prepared_refused n cells first second unrefined e =
    let P : Result ℕ Unrefined → Type 0 = Either (λ _. Unit {0}) (λ u. Prepared n cells first second first second (Err u)) in
    let wrong : in_range n ≡ true → (length cells ≡ n * n → ⊥) → P (Err WrongLength) =
    λ i d. prepared_untouched n cells first second (answer 2 0 0 0 0) (Err WrongLength) (readied_wrong_cells _ _ _ _ i d) refl refl in
    subst P e (by_size P n (length first) (length second)
    (λ i. prepared_untouched n cells first second (answer 1 0 0 0 0) (Err OutOfRange) (readied_outside _ _ _ _ i) refl refl)
    (λ i h. split_eq (length cells) (n * n)
    (λ l. prepared_untouched n cells first second (answer 2 0 0 0 0) (Err WrongLength)
    (readied_short_first _ _ _ _ i l h) refl refl)
    (wrong i))
    (λ i u h. split_eq (length cells) (n * n)
    (λ l. prepared_untouched n cells first second (answer 2 0 0 0 0) (Err WrongLength)
    (readied_short_second _ _ _ _ i l u h) refl refl)
    (wrong i))
    (λ _ _ _. tt))

-- ---- a run

left_front : (n : ℕ) (from : Area) (m : List ℕ) (ending : Ending (List ℕ)) (area : Area) (held : List ℕ)
    → left_by n from m ending area (take (n * n) held) ++ drop (n * n) held ≡ left_by n from m ending area held
unfolding left_by
left_front n from m (accepted network count) area held = laid_over_front (n * n) network held
left_front n from m (refused x) area held = go (eqb x.number 23) (eqb x.number 24) (same_area area (holds from x.count)) x.count
  where
    one_before : (count : ℕ) → round_before n count m (take (n * n) held) ++ drop (n * n) held ≡ round_before n count m held
    one_before zero = take-append-drop (n * n) held
    one_before (suc count) = laid_over_front (n * n) _ held

    go : (cleared unfinished holder : Bool) (count : ℕ)
        → cond cleared (laid (n * n) (replicate (n * n) 0) (take (n * n) held))
        (cond unfinished (used_up n count m holder (take (n * n) held)) (take (n * n) held))
        ++ drop (n * n) held
        ≡ cond cleared (laid (n * n) (replicate (n * n) 0) held) (cond unfinished (used_up n count m holder held) held)
    go true unfinished holder count = laid_over_front (n * n) (replicate (n * n) 0) held
    go false true true count = laid_over_front (n * n) _ held
    go false true false count = one_before count
    go false false holder count = take-append-drop (n * n) held

-- the front of the area named
chosen_front : (k : ℕ) (from : Area) (first second : List ℕ) → chosen from (take k first) (take k second) ≡ take k (chosen from first second)
chosen_front k First first second = refl
chosen_front k Second first second = refl

-- what the rounds left in the fronts, with the rest as it was
pub ran_fronts : (n : ℕ) (from : Area) (most : ℕ) (first second first' second' : List ℕ) (verdict : Verdict) → in_range n ≡ true
    → n * n ≤ length first → n * n ≤ length second
    → Meets n from (rounds_or n most (chosen from (take (n * n) first) (take (n * n) second))) (take (n * n) first) (take (n * n) second) first' second' verdict
    → Ran n from most first second (first' ++ drop (n * n) first) (second' ++ drop (n * n) second) verdict
unfolding ran
ran_fronts n from most first second first' second' verdict e u v x =
    let m : List ℕ = starts_from n from first second in
    let same : ran_from n from most first second ≡ rounds_or n most m =
    rw (e, le-leb (n * n) (length first) u, le-leb (n * n) (length second) v) in
    let y : Meets n from (rounds_or n most m) (take (n * n) first) (take (n * n) second) first' second' verdict =
    rw (chosen_front (n * n) from first second) at x in
    record {
      answer = rw same y.answer;
      names = y.names;
      in_first = rw (same, y.in_first, chosen_front (n * n) from first second) (left_front n from m (rounds_or n most m) First first);
      in_second = rw (same, y.in_second, chosen_front (n * n) from first second) (left_front n from m (rounds_or n most m) Second second);
    }

-- a run that is refused before it starts leaves both areas
pub ran_untouched : (n : ℕ) (from : Area) (most : ℕ) (first second : List ℕ) (number : ℕ) (verdict : Verdict)
    → ran_from n from most first second ≡ refused (answer number 0 0 0 0) → answer_of verdict ≡ answer number 0 0 0 0 → NamesFrom n from verdict
    → eqb number 23 ≡ false → eqb number 24 ≡ false → Ran n from most first second first second verdict
unfolding left_by
ran_untouched n from most first second number verdict e a names b c =
    record { answer = rw (e, c) a; names = names; in_first = rw (e, b, c); in_second = rw (e, b, c) }

-- so is one that the common tests refuse
pub ran_refused : (n : ℕ) (from : Area) (most : ℕ) (first second : List ℕ) (unrefined : Unrefined)
    → size_within n (length first) (length second) ≡ Err unrefined → Ran n from most first second first second (Err unrefined)
ran_refused n from most first second unrefined e =
    let P : Result ℕ Unrefined → Type 0 = Either (λ _. Unit {0}) (λ u. Ran n from most first second first second (Err u)) in
    subst P e (by_size P n (length first) (length second)
    (λ i. ran_untouched n from most first second 1 (Err OutOfRange) (ran_outside _ _ _ _ _ i) refl tt refl refl)
    (λ i h. ran_untouched n from most first second 2 (Err WrongLength) (ran_short_first _ _ _ _ _ i h) refl tt refl refl)
    (λ i u h. ran_untouched n from most first second 2 (Err WrongLength) (ran_short_second _ _ _ _ _ i u h) refl tt refl refl)
    (λ _ _ _. tt))
