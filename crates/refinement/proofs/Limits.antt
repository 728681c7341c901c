-- Within its limits a call on cells is what follows its checks, and outside them it is refused; the same of a run.
use mathlib.Core.Path.{◌≡◌}
use mathlib.Core.Bool.{true, false}
use mathlib.Core.List.{List}
use Prim.Native.Nat.{ℕ, ◌*◌, ◌≤◌, ◌<◌}
use borrow.Author.Tests.{le-leb, lt-leb}
use lib.ListN.{length}
use Rattle.answer.specs.Answer.{answer}
use Rattle.answer.specs.Ending.{Ending, refused}
use Rattle.lists.proofs.Splits.{by_test, split_lt, split_eq}
use Rattle.matrix.specs.Square.{in_range}
use Rattle.matrix.proofs.CellLaws.{range_holds, in_range_lem, has-square, no_square}
use Rattle.refinement.specs.Refine.{rounds, limited, refine, refined}
use Rattle.refinement.specs.Run.{is_plain, ran}
use Rattle.refinement.specs.InRange.{InRange}

-- ---- a call on cells

pub limits_follow : {n : ℕ} {m : List ℕ} {first second : ℕ} → InRange n m first second → (follows : Unit {0} → Ending (List ℕ))
    → limited n m first second follows ≡ follows tt
limits_follow {n} {m} {first} {second} r follows =
    rw (
      in_range_lem n r.square.some r.square.few,
      has-square n m r.square.size,
      le-leb (n * n) first r.first-long,
      le-leb (n * n) second r.second-long,
    )

pub refined_in_range : {n : ℕ} {m : List ℕ} {first second : ℕ} → InRange n m first second
    → refined n m first second ≡ refine n m
unfolding refined
refined_in_range {n} {m} r = limits_follow r (λ _. refine n m)

-- n is checked first
module _ (n : ℕ) (m : List ℕ) (first second : ℕ) (follows : Unit {0} → Ending (List ℕ)) where
  pub limits_outside : in_range n ≡ false → limited n m first second follows ≡ refused (answer 1 0 0 0 0)
  limits_outside e = rw e

  -- then the cells and the areas
  module _ (e : in_range n ≡ true) where
    pub limits_wrong_cells : (length m ≡ n * n → ⊥) → limited n m first second follows ≡ refused (answer 2 0 0 0 0)
    limits_wrong_cells h = rw (e, no_square n m h)

    module _ (l : length m ≡ n * n) where
      pub limits_short_first : first < n * n → limited n m first second follows ≡ refused (answer 2 0 0 0 0)
      limits_short_first h = rw (e, has-square n m l, lt-leb (n * n) first h)

      pub limits_short_second : n * n ≤ first → second < n * n → limited n m first second follows ≡ refused (answer 2 0 0 0 0)
      limits_short_second u h = rw (e, has-square n m l, le-leb (n * n) first u, lt-leb (n * n) second h)

pub limits_kept : (n : ℕ) (m : List ℕ) (first second : ℕ) → in_range n ≡ true → length m ≡ n * n → n * n ≤ first → n * n ≤ second
    → InRange n m first second
limits_kept n m first second e l u v =
    let r = range_holds n e in
    record { square = record { some = r.0; few = r.1; size = l }; first-long = u; second-long = v }

-- two calls with the same checks, by what these find
pub by_limits : (P : Ending (List ℕ) → Ending (List ℕ) → Type 0) (n : ℕ) (m : List ℕ) (first second : ℕ)
    (follows other : Unit {0} → Ending (List ℕ)) → P (refused (answer 1 0 0 0 0)) (refused (answer 1 0 0 0 0))
    → P (refused (answer 2 0 0 0 0)) (refused (answer 2 0 0 0 0)) → (InRange n m first second → P (follows tt) (other tt))
    → P (limited n m first second follows) (limited n m first second other)
by_limits P n m first second follows other outside wrong inside =
    by_test (in_range n)
    (λ e. split_eq (length m) (n * n)
    (λ l. split_lt first (n * n)
    (λ h. rw (limits_short_first n m first second follows e l h, limits_short_first n m first second other e l h) wrong)
    (λ u. split_lt second (n * n)
    (λ h. rw (limits_short_second n m first second follows e l u h, limits_short_second n m first second other e l u h) wrong)
    (λ v.
    let range : InRange n m first second = limits_kept n m first second e l u v in
    rw (limits_follow range follows, limits_follow range other) (inside range))))
    (λ d. rw (limits_wrong_cells n m first second follows e d, limits_wrong_cells n m first second other e d) wrong))
    (λ e. rw (limits_outside n m first second follows e, limits_outside n m first second other e) outside)

-- the whole call
pub by_range : (P : Ending (List ℕ) → Type 0) (n : ℕ) (m : List ℕ) (first second : ℕ) → P (refused (answer 1 0 0 0 0))
    → P (refused (answer 2 0 0 0 0)) → (InRange n m first second → P (refine n m)) → P (refined n m first second)
unfolding refined
by_range P n m first second outside wrong inside =
    by_limits (λ (e other : Ending (List ℕ)). P e) n m first second (λ _. refine n m) (λ _. refine n m) outside wrong inside

-- ---- a run

module _ (n more : ℕ) (m : List ℕ) (first second : ℕ) where
  pub ran_outside : in_range n ≡ false → ran n more m first second ≡ refused (answer 1 0 0 0 0)
  unfolding ran
  ran_outside e = rw e

  module _ (e : in_range n ≡ true) where
    pub ran_short_first : first < n * n → ran n more m first second ≡ refused (answer 2 0 0 0 0)
    unfolding ran
    ran_short_first h = rw (e, lt-leb (n * n) first h)

    module _ (u : n * n ≤ first) where
      pub ran_short_second : second < n * n → ran n more m first second ≡ refused (answer 2 0 0 0 0)
      unfolding ran
      ran_short_second h = rw (e, le-leb (n * n) first u, lt-leb (n * n) second h)

      module _ (v : n * n ≤ second) where
        pub ran_unprepared : is_plain n m ≡ false → ran n more m first second ≡ refused (answer 25 0 0 0 0)
        unfolding ran
        ran_unprepared h = rw (e, le-leb (n * n) first u, le-leb (n * n) second v, h)

        pub ran-rounds : is_plain n m ≡ true → ran n more m first second ≡ rounds more n 0 m
        unfolding ran
        ran-rounds h = rw (e, le-leb (n * n) first u, le-leb (n * n) second v, h)

-- a run within its limits
pub record Runs (n : ℕ) (m : List ℕ) (first second : ℕ) : Type 0 where
  pub range : in_range n ≡ true
  pub first-long : n * n ≤ first
  pub second-long : n * n ≤ second
  pub plain : is_plain n m ≡ true

-- the run, by what its checks find
pub by_ran : (P : Ending (List ℕ) → Type 0) (n more : ℕ) (m : List ℕ) (first second : ℕ) → P (refused (answer 1 0 0 0 0))
    → P (refused (answer 2 0 0 0 0)) → P (refused (answer 25 0 0 0 0)) → (Runs n m first second → P (rounds more n 0 m))
    → P (ran n more m first second)
by_ran P n more m first second outside wrong unprepared inside =
    by_test (in_range n)
    (λ e. split_lt first (n * n) (λ h. rw (ran_short_first n more m first second e h) wrong)
    (λ u. split_lt second (n * n) (λ h. rw (ran_short_second n more m first second e u h) wrong)
    (λ v. by_test (is_plain n m)
    (λ p. rw (ran-rounds n more m first second e u v p) (inside (record { range = e; first-long = u; second-long = v; plain = p })))
    (λ p. rw (ran_unprepared n more m first second e u v p) unprepared))))
    (λ e. rw (ran_outside n more m first second e) outside)
