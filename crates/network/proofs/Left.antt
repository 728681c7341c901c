-- What is left where rounds ended is what the run promises.
use mathlib.Core.Path.{◌≡◌, refl, sym, ap, ◌∙◌}
use mathlib.Core.List.{List}
use Prim.Native.Nat.{ℕ, zero, suc, ◌*◌, ◌<◌}
use lib.ListN.{length}
use native.Mathlib.Nat.{zero-lt-suc}
use Rattle.std.specs.Prelude.{Option, Some}
use borrow.Author.Tests.{lt-ltb}
use Rattle.lists.specs.Least.{found_below}
use Rattle.lists.proofs.LaidLaws.{laid_all}
use Rattle.region.specs.Lookup.{place}
use Rattle.matrix.specs.Square.{Square}
use Rattle.matrix.proofs.CellLaws.{length-grid}
use Rattle.planes.specs.Planes.{planes_matrix}
use Rattle.planes.specs.Calls.{given}
use Rattle.round.proofs.Steps.{gives}
use Rattle.refinement.specs.Round.{ran_out}
use Rattle.refinement.specs.Refine.{rounds}
use Rattle.refinement.specs.Run.{after_rounds}
use Rattle.network.specs.declared.Area.{Area}
use Rattle.network.specs.declared.leaving.WorkAreas.{WorkAreas}
use Rattle.network.specs.declared.Area.TheVariants.{First, Second}
use Rattle.network.specs.Verdict.{Verdict}
use Rattle.network.specs.declared.turning.Ended.{Ended}
use Rattle.network.specs.declared.turning.Ended.TheVariants.{Empty, Same, UsedUp}
use Rattle.network.specs.Areas.{other, chosen, holds}
use Rattle.network.specs.Inner.{EndsUsedUp, Ends, Placed, Shares, Stops, Leaves, Meets}
use Rattle.network.proofs.Endings.{meets-accepted, meets_refused, meets_unfinished}

-- rounds that ended at an empty set tell a place of the matrix
pub ends_placed : (n most : ℕ) (m old new : List ℕ) (ended : Ended) → Ends n most m old new ended → Placed n old ended
unfolding Ends Placed
ends_placed n most m old new (Empty row column round) e = (e.row_lt, e.column_lt, e.runs_out)
ends_placed n most m old new (Same count) e = tt
ends_placed n most m old new (UsedUp count) e = tt

-- what each of the two areas holds is a matrix
pub first_square : (areas : WorkAreas) → Square areas.n areas.first.now
first_square areas = record { some = areas.some; few = areas.few; size = areas.first_size }

pub second_square : (areas : WorkAreas) → Square areas.n areas.second.now
second_square areas = record { some = areas.some; few = areas.few; size = areas.second_size }

-- the planes that are chosen for each area are given to it
pub shares : (n : ℕ) (area : Area) (old new : List ℕ) {one other first second first' second' : List ℕ} → length old ≡ 8 * n → length new ≡ 8 * n
    → Square n first → Square n second → one ≡ chosen area new old → other ≡ chosen area old new → first' ≡ given n one first
    → second' ≡ given n other second → Shares n area old new first' second'
shares n First old new {first = first} {second = second} a b p q e f g h = record {
  in_first = g ∙ ap (λ (x : List ℕ). given n x first) e ∙ gives p new b;
  in_second = h ∙ ap (λ (x : List ℕ). given n x second) f ∙ gives q old a;
}
shares n Second old new {first = first} {second = second} a b p q e f g h = record {
  in_first = g ∙ ap (λ (x : List ℕ). given n x first) e ∙ gives p old a;
  in_second = h ∙ ap (λ (x : List ℕ). given n x second) f ∙ gives q new b;
}

-- the search in the matrix that an area was given finds a region on the way
pub ran_out_there : {n : ℕ} {m area : List ℕ} (i j : ℕ) {found : Option ℕ} → area ≡ m → ran_out n m i j < n
    → found ≡ found_below n (ran_out n area i j) → found ≡ Some (ran_out n m i j)
ran_out_there {n} {m} {area} i j {found} e h f = rw (f, e, lt-ltb (ran_out n m i j) n h) refl

pub size_of : (n : ℕ) (planes : List ℕ) → length (planes_matrix n planes) ≡ n * n
size_of n planes = length-grid n _

module _ (n : ℕ) (area : Area) (most : ℕ) (old new first second first' second' : List ℕ) (x : length first ≡ n * n)
    (y : length second ≡ n * n) where
  abbrev m : List ℕ
  m = chosen area first second

  chosen-size : (a : Area) → length (chosen a first second) ≡ n * n
  chosen-size First = x
  chosen-size Second = y

  -- where the rounds are used up: what the area named holds, and the other one
  named : (a : Area) → Shares n a old new first' second' → chosen a first' second' ≡ planes_matrix n new
  named First s = s.in_first
  named Second s = s.in_second

  behind : (a : Area) → Shares n a old new first' second' → chosen (other a) first' second' ≡ planes_matrix n old
  behind First s = s.in_second
  behind Second s = s.in_first

  kept : (a : Area) → (first' ≡ first) × (second' ≡ second) → chosen a first' second' ≡ chosen a first second
  kept First p = p.0
  kept Second p = p.1

  stops_meets : (count : ℕ) (verdict : Verdict) → EndsUsedUp n most m old new count
      → Stops n area count old new first second first' second' verdict
      → Meets n area (rounds most n 0 m) first second first' second' verdict
  unfolding after_rounds
  stops_meets zero verdict e s =
      let p = s.none refl in
      rw s.told
      (meets_unfinished n area (rounds most n 0 m) first second x y 0 first' second' (holds area 0) e.ending refl
      (kept (holds area 0) p ∙ sym (laid_all (n * n) m (chosen (holds area 0) first second) (chosen-size area) (chosen-size (holds area 0))))
      (kept (other (holds area 0)) p))
  stops_meets (suc count) verdict e s =
      let p = s.some (zero-lt-suc count) in
      let h : Area = holds area (suc count) in
      let last = e.last in
      let before : planes_matrix n old ≡ after_rounds count n m = e.before in
      rw s.told
      (meets_unfinished n area (rounds most n 0 m) first second x y (suc count) first' second' h e.ending refl
      (named h p ∙ last
      ∙ sym (laid_all (n * n) (after_rounds (suc count) n m) (chosen h first second) (sym (ap length last) ∙ size_of n new) (chosen-size h)))
      (behind h p ∙ before
      ∙ sym (laid_all (n * n) (after_rounds count n m) (chosen (other h) first second) (sym (ap length before) ∙ size_of n old) (chosen-size (other h)))))

  pub leaves-meets : (ended : Ended) (verdict : Verdict) → Ends n most m old new ended
      → Leaves n area ended old new first second first' second' verdict
      → Meets n area (rounds most n 0 (chosen area first second)) first second first' second' verdict
  unfolding Ends Leaves
  leaves-meets (Empty row column round) verdict e s =
      rw s.told
      (meets_refused n area (rounds most n 0 m) first second x y (place row) (place (ran_out n (planes_matrix n old) row column)) (place column) round
      first second first' second' e.ending x y s.cleared)
  leaves-meets (Same count) verdict e s =
      rw s.told
      (meets-accepted n area (rounds most n 0 m) first second x y count (planes_matrix n old) first' second' (holds (other area) count) e
      (size_of n old) s.in_first s.in_second refl)
  leaves-meets (UsedUp count) verdict e s = stops_meets count verdict e s
