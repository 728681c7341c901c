-- Every number of an answer has 32 bits, so the 20 bytes lose nothing: places are below 64 or at most 32,768, and so are counts, however
-- many rounds a call may make.
use mathlib.Core.Path.{◌≡◌}
use mathlib.Core.Bool.{Bool, true, false, not, cond, ◌||◌}
use mathlib.Core.List.{List}
use Prim.Native.Nat.{ℕ, zero, suc, ◌+◌, ◌*◌, ◌≤◌, ◌<◌}
use native.Mathlib.Omega.{arith}
use borrow.Author.Tests.{eq-eqb, ltb-true, ltb-false, not-false}
use lib.Dec.{eqb, ltb}
use lib.ListN.{length}
use Rattle.lists.proofs.Splits.{split_eq, by_test}
use Rattle.lists.proofs.BigEndianLaws.{joined}
use Rattle.answer.specs.Answer.{Answer}
use Rattle.answer.specs.Ending.{Ending, accepted, refused, answered}
use Rattle.answer.specs.Bytes.{Answers}
use Rattle.answer.proofs.Stops.{by_stop}
use Rattle.matrix.specs.Square.{in_range, has_square}
use Rattle.matrix.specs.Cells.{first_empty}
use Rattle.matrix.proofs.CellLaws.{row_lt, column_lt, range_holds}
use Rattle.refinement.specs.Ends.{Ends, NamesRegions, a_region, a_pair, a_triple}
use Rattle.refinement.specs.declared.Step.{Step}
use Rattle.refinement.specs.Plain.{Plain}
use Rattle.refinement.specs.Round.{round}
use Rattle.refinement.specs.Refine.{most_rounds, stepped, rounds, refine, refined}
use Rattle.refinement.specs.Run.{readied}
use Rattle.refinement.proofs.Slack.{slack, slack_most, most_rounds_le}
use Rattle.refinement.proofs.RanOut.{three_differ}
use Rattle.refinement.proofs.Stepping.{by_step}
use Rattle.refinement.proofs.Loop.{moves_falls}
use Rattle.refinement.proofs.Ending.{refine_ends}
use Rattle.refinement.proofs.Readied.{readied-accepts, readied-ending, readied-refuses}
use Rattle.refinement.proofs.PlainTest.{plain_tested}
use Rattle.refinement.proofs.Limits.{by_range, by_ran}
use Rattle.network.specs.declared.Area.{Area}
use Rattle.network.specs.declared.Area.TheVariants.{First, Second}
use Rattle.network.specs.Areas.{holds}
use Rattle.network.specs.Numbers.{area_number}
use Rattle.network.specs.Ran.{answered_from, starts_from}
use Rattle.filing.specs.Areas.{Areas}
use Rattle.scene.specs.Reading.{read_of}
use Rattle.scene.proofs.Answers.{read_small}
use Rattle.scene.specs.Format.{most_bytes}
use Rattle.writer.specs.Scene.{scene_of}
use Rattle.writer.specs.Writing.{is_zero, first_bad, checked, write_of}
use Rattle.chachaqom.specs.RefineExport.{RefineExport}
use Rattle.chachaqom.specs.PrepareExport.{PrepareExport}
use Rattle.chachaqom.specs.RunExport.{is_area, area_of, run_of, RunExport}
use Rattle.chachaqom.specs.ReadExport.{lent_bytes, ReadExport}
use Rattle.chachaqom.specs.WriteExport.{identifiers_lent, WriteExport}
use Rattle.chachaqom.specs.ReadBack.{ReadBack}
use Rattle.chachaqom.proofs.Promised.{no_area, an_area}

-- each of the five numbers has 32 bits
pub record Fits (a : Answer) : Type 0 where
  pub number : a.number < 4294967296
  pub first : a.first < 4294967296
  pub second : a.second < 4294967296
  pub third : a.third < 4294967296
  pub count : a.count < 4294967296

-- so each is read back from its place of the 20 bytes
pub read_back : {a : Answer} {area area' : List ℕ} {number : ℕ} → Fits a → Answers a area area' number → length area ≡ 20 → ReadBack a area'
read_back {a} {area} f x h =
    rw (x.in_answer, eq-eqb (length area) 20 h)
    (record {
      number = joined a.number f.number;
      first = joined a.first f.first;
      second = joined a.second f.second;
      third = joined a.third f.third;
      count = joined a.count f.count;
    })

-- ---- refining

named_fits : {n : ℕ} {numbers : Answer} → n ≤ 64 → NamesRegions n numbers → Fits numbers
named_fits few (a_region x) = omega (arith, x.number, x.inside, x.second, x.third, x.counted)
named_fits few (a_pair x) = omega (arith, x.number, x.order, x.inside, x.third, x.counted)
named_fits {n} few (a_triple x) =
    omega (arith, x.number, x.three.first, x.three.middle, x.three.last, x.few, most_rounds_le n few)

ending-fits : (n : ℕ) (m : List ℕ) (ending : Ending (List ℕ)) → n ≤ 64 → Ends n m ending → Fits (answered ending)
ending-fits n m (accepted network count) few e = omega (arith, e.few, most_rounds_le n few)
ending-fits n m (refused numbers) few e = named_fits few e.names

refined-fits : (n : ℕ) (cells : List ℕ) (first second : ℕ) → Fits (answered (refined n cells first second))
refined-fits n cells first second =
    by_range (λ (o : Ending (List ℕ)). Fits (answered o)) n cells first second (omega arith) (omega arith)
    (λ range. ending-fits n cells (refine n cells) range.square.few (refine_ends n cells))

-- what stands in an answer's bytes after a call can be read back from them
pub refine_read_back : {n : ℕ} {cells first second answer first' second' answer' : List ℕ} {number : ℕ}
    → RefineExport n cells first second answer first' second' answer' number → length answer ≡ 20
    → ReadBack (answered (refined n cells (length first) (length second))) answer'
refine_read_back {n} {cells} {first} {second} x h =
    read_back (refined-fits n cells (length first) (length second)) x.answers h

-- ---- preparing

readied-fits : (n : ℕ) (cells : List ℕ) (first second : ℕ) → Fits (answered (readied n cells first second))
readied-fits n cells first second =
    split_eq (answered (readied n cells first second)).number 0
    (λ e. rw (readied-ending n cells first second (readied-accepts n cells first second e)) (omega arith))
    (λ e. rw (← readied-refuses n cells first second e) (refined-fits n cells first second))

pub prepare_read_back : {n : ℕ} {cells first second answer first' second' answer' : List ℕ} {number : ℕ}
    → PrepareExport n cells first second answer first' second' answer' number → length answer ≡ 20
    → ReadBack (answered (readied n cells (length first) (length second))) answer'
prepare_read_back {n} {cells} {first} {second} x h =
    read_back (readied-fits n cells (length first) (length second)) x.answers h

-- ---- running

-- however many rounds are asked for, no more are counted than can change something, and the refusing one
rounds_fit : (n more count : ℕ) (old : List ℕ) → n ≤ 64 → Plain n old → count + slack n old ≤ most_rounds n
    → Fits (answered (rounds more n count old))
unfolding rounds
rounds_fit n zero count old few P h = omega (arith, most_rounds_le n few)
rounds_fit n (suc more) count old few P h =
    by_step (λ (s : Step). Fits (answered (stepped s count old (λ _. rounds more n (suc count) (round n old))))) n old
    (λ i j e.
    let t = three_differ n old i j P e.first e.last e.empties in
    omega (arith, t.first, t.middle, t.last, most_rounds_le n few))
    (λ r. omega (arith, most_rounds_le n few))
    (λ m.
    let f = moves_falls n old P m in rounds_fit n more (suc count) (round n old) few f.plain (omega (arith, f.less)))

-- the area that 24 names is 1 or 2
from-fits : (from : Area) (ending : Ending (List ℕ)) → Fits (answered ending) → Fits (answered_from from ending)
from-fits from (accepted network count) f = f
from-fits from (refused x) f = record {
  number = f.number;
  first = named (eqb x.number 24) (holds from x.count);
  second = f.second;
  third = f.third;
  count = f.count;
}
  where
    named : (b : Bool) (a : Area) → cond b (area_number a) x.first < 4294967296
    named true First = omega arith
    named true Second = omega arith
    named false a = f.first

run_fits : (n area most : ℕ) (first second : List ℕ) → Fits (answered (run_of n area most first second))
run_fits n area most first second =
    by_test (is_area area)
    (λ e. rw (an_area n area most first second e)
    (by_ran (λ (o : Ending (List ℕ)). Fits (answered o)) n most (starts_from n (area_of area) first second) (length first) (length second)
    (omega arith) (omega arith) (omega arith)
    (λ r. rounds_fit n most 0 (starts_from n (area_of area) first second) (range_holds n r.range).1
    (plain_tested n (starts_from n (area_of area) first second) r.plain)
    (omega (arith, slack_most n (starts_from n (area_of area) first second))))))
    (λ e. rw (no_area n area most first second e) (omega arith))

pub run_read_back : {n area most : ℕ} {first second answer first' second' answer' : List ℕ} {number : ℕ}
    → RunExport n area most first second answer first' second' answer' number → length answer ≡ 20
    → ReadBack (answered_from (area_of area) (run_of n area most first second)) answer'
run_read_back {n} {area} {most} {first} {second} x h =
    read_back (from-fits (area_of area) (run_of n area most first second) (run_fits n area most first second)) x.answers h

-- ---- reading

read_fits : (scene : List ℕ) (areas : Areas) → Fits (answered (read_of scene areas))
read_fits scene areas = let s = read_small scene areas in omega (arith, s.number, s.offset, s.second, s.third, s.count)

pub read_read_back : {scene identifiers cells marks answer identifiers' cells' marks' answer' : List ℕ} {number : ℕ}
    → ReadExport scene identifiers cells marks answer identifiers' cells' marks' answer' number → length answer ≡ 20
    → ReadBack (answered (read_of scene (lent_bytes identifiers cells marks))) answer'
read_read_back {scene} {identifiers} {cells} {marks} x h = read_back (read_fits scene (lent_bytes identifiers cells marks)) x.answers h

-- ---- writing

module _ (n : ℕ) (few : n ≤ 64) (identifiers cells : List ℕ) (room : ℕ) where
  abbrev Small : Ending (List ℕ) → Type 0
  Small e = Fits (answered e)

  checked-fits : Fits (answered (checked n identifiers cells room))
  unfolding checked
  checked-fits =
      let p : ℕ = first_bad n identifiers in
      let e : ℕ = first_empty (n * n) cells in
      let scene : List ℕ = scene_of n identifiers cells in
      by_stop Small (ltb p n) _ _
      (λ h. by_stop Small (is_zero identifiers p) _ _ (λ _. omega (arith, ltb-true p n h)) (λ _. omega (arith, ltb-true p n h)))
      (λ _. by_stop Small (ltb e (n * n)) _ _
      (λ h. omega (arith, row_lt n e (ltb-true e (n * n) h), column_lt n e (ltb-true e (n * n) h)))
      (λ _. by_stop Small (ltb most_bytes (length scene)) _ _
      (λ _. omega arith)
      (λ h. by_stop Small (ltb room (length scene)) _ _ (λ _. omega arith) (λ _. omega (arith, ltb-false most_bytes (length scene) h)))))

write_fits : (n : ℕ) (identifiers cells : List ℕ) (room : ℕ) → Fits (answered (write_of n identifiers cells room))
unfolding write_of
write_fits n identifiers cells room =
    by_stop (λ (o : Ending (List ℕ)). Fits (answered o)) (not (in_range n)) _ _ (λ _. omega arith)
    (λ h. by_stop (λ (o : Ending (List ℕ)). Fits (answered o)) (not (eqb (length identifiers) n) || not (has_square n cells)) _ _
    (λ _. omega arith)
    (λ _. checked-fits n (range_holds n (not-false _ h)).1 identifiers cells room))

pub write_read_back : {n : ℕ} {identifiers cells buffer answer buffer' answer' : List ℕ} {number : ℕ}
    → WriteExport n identifiers cells buffer answer buffer' answer' number → length answer ≡ 20
    → ReadBack (answered (write_of n (identifiers_lent n identifiers) cells (length buffer))) answer'
write_read_back {n} {identifiers} {cells} {buffer} x h =
    read_back (write_fits n (identifiers_lent n identifiers) cells (length buffer)) x.answers h
