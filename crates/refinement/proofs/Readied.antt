-- Preparation as a call of its own: where it is accepted the rounds decide, and where it is refused the refinement is.
use mathlib.Core.Path.{◌≡◌, refl, sym, ap, ◌∙◌}
use mathlib.Core.Bool.{true, false}
use mathlib.Core.List.{List}
use Prim.Native.Nat.{ℕ, ◌*◌, ◌≤◌, ◌<◌}
use native.Mathlib.Omega.{arith}
use lib.ListN.{length}
use Rattle.std.specs.Prelude.{Ok, Err}
use Rattle.answer.specs.Answer.{answer}
use Rattle.answer.specs.Ending.{Ending, accepted, refused, answered}
use Rattle.matrix.specs.Square.{in_range}
use Rattle.refinement.specs.declared.Contradiction.TheVariants.{Region, Pair, Triple}
use Rattle.refinement.specs.Prepare.{Preparation, prepared, preparation}
use Rattle.refinement.specs.Refine.{started, all_rounds, refine, refined}
use Rattle.refinement.specs.Run.{readied}
use Rattle.refinement.specs.InRange.{InRange}
use Rattle.refinement.specs.Plain.{Plain}
use Rattle.refinement.proofs.Stages.{arc_done}
use Rattle.refinement.proofs.Preparing.{ready_none_empty, refine_by}
use Rattle.refinement.proofs.Limits.{limits_follow, limits_outside, limits_wrong_cells, limits_short_first, limits_short_second, by_limits, refined_in_range}

-- the rounds can start
pub record Readied (n : ℕ) (m : List ℕ) (first second : ℕ) : Type 0 where
  pub range : InRange n m first second
  pub ready : preparation n m ≡ Ok tt

-- only what is ready goes without a number
number_ready : (a : Preparation) (ready : Ending (List ℕ)) → (answered (started a (λ _. ready))).number ≡ 0 → a ≡ Ok tt
number_ready (Ok tt) ready e = refl
number_ready (Err (Region i)) ready e = absurd (omega (arith, e))
number_ready (Err (Pair i j)) ready e = absurd (omega (arith, e))
number_ready (Err (Triple i k j)) ready e = absurd (omega (arith, e))

number_refused : (a : Preparation) (m : List ℕ) (other : Ending (List ℕ)) → ((answered (started a (λ _. accepted m 0))).number ≡ 0 → ⊥)
    → started a (λ _. other) ≡ started a (λ _. accepted m 0)
number_refused (Ok ready) m other h = absurd (h refl)
number_refused (Err (Region i)) m other h = refl
number_refused (Err (Pair i j)) m other h = refl
number_refused (Err (Triple i k j)) m other h = refl

-- of an accepted matrix it is accepted too
pub accepted-readied : {n : ℕ} {m w : List ℕ} {first second count : ℕ} → InRange n m first second → refine n m ≡ accepted w count
    → Readied n m first second
accepted-readied {n} {m} range e = record {
  range = range;
  ready = number_ready (preparation n m) (all_rounds n (prepared n m))
      (ap (λ (x : Ending (List ℕ)). (answered x).number) (sym (refine_by n m refl) ∙ e));
}

module _ (n : ℕ) (m : List ℕ) (first second : ℕ) where
  unfoldable readies : Unit {0} → Ending (List ℕ)
  readies = λ _. started (preparation n m) (λ _. accepted (prepared n m) 0)

  pub readied_outside : in_range n ≡ false → readied n m first second ≡ refused (answer 1 0 0 0 0)
  unfolding readied readies
  readied_outside e = limits_outside n m first second readies e

  module _ (e : in_range n ≡ true) where
    pub readied_wrong_cells : (length m ≡ n * n → ⊥) → readied n m first second ≡ refused (answer 2 0 0 0 0)
    unfolding readied readies
    readied_wrong_cells h = limits_wrong_cells n m first second readies e h

    module _ (l : length m ≡ n * n) where
      pub readied_short_first : first < n * n → readied n m first second ≡ refused (answer 2 0 0 0 0)
      unfolding readied readies
      readied_short_first h = limits_short_first n m first second readies e l h

      pub readied_short_second : n * n ≤ first → second < n * n → readied n m first second ≡ refused (answer 2 0 0 0 0)
      unfolding readied readies
      readied_short_second u h = limits_short_second n m first second readies e l u h

  pub readied-accepts : (answered (readied n m first second)).number ≡ 0 → Readied n m first second
  unfolding readied
  readied-accepts =
      by_limits (λ (e other : Ending (List ℕ)). (answered e).number ≡ 0 → Readied n m first second) n m first second
      (λ _. started (preparation n m) (λ _. accepted (prepared n m) 0)) (λ _. started (preparation n m) (λ _. accepted (prepared n m) 0))
      (λ e. absurd (omega (arith, e)))
      (λ e. absurd (omega (arith, e)))
      (λ r e. record { range = r; ready = number_ready (preparation n m) (accepted (prepared n m) 0) e })

  pub readied-refuses : ((answered (readied n m first second)).number ≡ 0 → ⊥) → refined n m first second ≡ readied n m first second
  unfolding readied refined refine
  readied-refuses =
      by_limits (λ (e other : Ending (List ℕ)). ((answered e).number ≡ 0 → ⊥) → other ≡ e) n m first second
      (λ _. started (preparation n m) (λ _. accepted (prepared n m) 0)) (λ _. refine n m)
      (λ h. refl)
      (λ h. refl)
      (λ r h. number_refused (preparation n m) (prepared n m) (all_rounds n (prepared n m)) h)

  module _ (r : Readied n m first second) where
    pub readied-ending : readied n m first second ≡ accepted (prepared n m) 0
    unfolding readied
    readied-ending =
        limits_follow r.range (λ _. started (preparation n m) (λ _. accepted (prepared n m) 0))
        ∙ ap (λ (a : Preparation). started a (λ _. accepted (prepared n m) 0)) r.ready

    pub readied-rounds : refined n m first second ≡ all_rounds n (prepared n m)
    readied-rounds = refined_in_range r.range ∙ refine_by n m (sym r.ready)

    pub readied-plain : Plain n (prepared n m)
    readied-plain =
        let none = ready_none_empty n m r.ready in arc_done n m none.regions none.cells
