-- What the areas hold where preparation or rounds in areas of exactly n² bytes end.
use mathlib.Core.Path.{◌≡◌, refl, sym, ap, ◌∙◌}
use mathlib.Core.Bool.{false}
use mathlib.Core.List.{List}
use Prim.Native.Nat.{ℕ, ◌*◌}
use lib.ListN.{length, replicate, length-replicate}
use Rattle.std.specs.Prelude.{Err}
use Rattle.answer.specs.Answer.{answer}
use Rattle.answer.specs.Ending.{Ending, accepted, refused}
use Rattle.lists.specs.Laid.{laid}
use Rattle.lists.proofs.LaidLaws.{laid_all}
use Rattle.region.specs.declared.Place.{Place}
use Rattle.refinement.specs.Run.{is_plain, after_rounds}
use Rattle.network.specs.declared.Area.{Area}
use Rattle.network.specs.declared.Area.TheVariants.{First, Second}
use Rattle.refinement.specs.declared.Contradiction.TheVariants.{Triple}
use Rattle.network.specs.Verdict.{acceptance}
use Rattle.network.specs.declared.Unrefined.TheVariants.{Refused, Unfinished, Unprepared}
use Rattle.network.specs.Areas.{other, chosen, same_area, holds}
use Rattle.network.specs.Ran.{round_before, used_up, left_by}
use Rattle.network.specs.Inner.{Clears, rounds_or, Meets}

-- an area that was cleared has zeros in front
pub zeros_laid : (n : ℕ) (area held : List ℕ) {area' : List ℕ} → length area ≡ n * n → length held ≡ n * n → area' ≡ replicate (length area) 0
    → area' ≡ laid (n * n) (replicate (n * n) 0) held
zeros_laid n area held l h e =
    e ∙ ap (λ (k : ℕ). replicate k 0) l ∙ sym (laid_all (n * n) (replicate (n * n) 0) held (length-replicate {A = ℕ} (n * n) 0) h)

module _ (n : ℕ) (from : Area) (ending : Ending (List ℕ)) (first second : List ℕ) (x : length first ≡ n * n) (y : length second ≡ n * n) where
  -- both areas hold the network
  pub meets-accepted : (count : ℕ) (network first' second' : List ℕ) (area : Area) → ending ≡ accepted network count
      → length network ≡ n * n → first' ≡ network → second' ≡ network → area ≡ holds (other from) count
      → Meets n from ending first second first' second' (acceptance n count area)
  unfolding left_by
  meets-accepted count network first' second' area e l f g a =
      rw e
      (record {
        answer = refl;
        names = (refl, a);
        in_first = f ∙ sym (laid_all (n * n) network first l x);
        in_second = g ∙ sym (laid_all (n * n) network second l y);
      })

  -- both areas are 0, as they were cleared
  pub meets_refused : (i k j : Place) (count : ℕ) (before behind first' second' : List ℕ)
      → ending ≡ refused (answer 23 i.0 k.0 j.0 count) → length before ≡ n * n → length behind ≡ n * n
      → Clears before behind first' second' → Meets n from ending first second first' second' (Err (Refused (Triple i k j) count))
  unfolding left_by
  meets_refused i k j count before behind first' second' e u v c =
      rw e (record { answer = refl; names = tt; in_first = zeros_laid n before first u x c.in_first; in_second = zeros_laid n behind second v y c.in_second })

  -- one area holds the last round's matrix, the other the one before it
  pub meets_unfinished : (count : ℕ) (first' second' : List ℕ) (area : Area) → ending ≡ refused (answer 24 0 0 0 count)
      → area ≡ holds from count → chosen (holds from count) first' second' ≡ laid (n * n) (after_rounds count n (chosen from first second)) (chosen (holds from count) first second)
      → chosen (other (holds from count)) first' second' ≡ round_before n count (chosen from first second) (chosen (other (holds from count)) first second)
      → Meets n from ending first second first' second' (Err (Unfinished count area))
  unfolding left_by
  meets_unfinished count first' second' area e a f g =
      rw (e, a)
      (record {
        answer = refl;
        names = tt;
        in_first = in_first_lem (holds from count) f g;
        in_second = in_second_lem (holds from count) f g;
      })
    where
      m : List ℕ
      m = chosen from first second

      in_first_lem : (h : Area) → chosen h first' second' ≡ laid (n * n) (after_rounds count n m) (chosen h first second)
          → chosen (other h) first' second' ≡ round_before n count m (chosen (other h) first second)
          → first' ≡ used_up n count m (same_area First h) first
      in_first_lem First p q = p
      in_first_lem Second p q = q

      in_second_lem : (h : Area) → chosen h first' second' ≡ laid (n * n) (after_rounds count n m) (chosen h first second)
          → chosen (other h) first' second' ≡ round_before n count m (chosen (other h) first second)
          → second' ≡ used_up n count m (same_area Second h) second
      in_second_lem First p q = q
      in_second_lem Second p q = p

-- rounds cannot start from the matrix: nothing was written
pub unplain_meets : (n : ℕ) (from : Area) (most : ℕ) (first second : List ℕ) → is_plain n (chosen from first second) ≡ false
    → Meets n from (rounds_or n most (chosen from first second)) first second first second (Err Unprepared)
unfolding left_by
unplain_meets n from most first second e = rw e (record { answer = refl; names = tt; in_first = refl; in_second = refl })
