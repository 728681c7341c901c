-- What the exports promise, by the ways they can go: an answer area of another length, an area that is none, areas of other lengths, and
-- what the calls behind them left.
use mathlib.Core.Path.{◌≡◌, refl, sym, ap, ◌∙◌}
use mathlib.Core.Bool.{true, false, cond}
use mathlib.Core.List.{List, []}
use Prim.Native.Nat.{ℕ}
use native.Mathlib.Omega.{arith}
use borrow.Author.Tests.{eq-eqb, ne_eqb, eqb-true}
use lib.Dec.{eqb}
use lib.ListN.{length, replicate}
use Rattle.std.proofs.Common.{Result, Ok, Err}
use Rattle.lists.specs.BigEndian.{AllBytes, numbers_bytes, two_bytes_each}
use Rattle.lists.proofs.Splits.{by_test}
use Rattle.answer.specs.Answer.{Answer, answer}
use Rattle.answer.specs.Ending.{refused, answered}
use Rattle.answer.specs.Bytes.{Answers}
use Rattle.answer.proofs.Exporting.{unfit_answers, unfit_leaves, fit_leaves, same-answers}
use Rattle.network.specs.declared.Area.{Area}
use Rattle.network.specs.declared.Area.TheVariants.{First, Second}
use Rattle.network.specs.Verdict.{Verdict, Start}
use Rattle.network.specs.declared.Unrefined.{Unrefined}
use Rattle.network.specs.declared.Unrefined.TheVariants.{OutOfRange}
use Rattle.network.specs.Numbers.{area_numbered, answer_of as verdictAnswer, answer_of_start}
use Rattle.network.specs.Refined.{Refined}
use Rattle.network.specs.Prepared.{Prepared}
use Rattle.network.specs.Ran.{left_by, starts_from, ran_from, Ran}
use Rattle.filing.specs.Areas.{Areas, holding, Lent, are_lent, lent_identifiers, lent_cells}
use Rattle.filing.proofs.Lending.{lent_so}
use Rattle.scene.specs.declared.Unread.{Unread}
use Rattle.scene.specs.declared.Unread.TheVariants.{WrongLength, TooLong, Refused}
use Rattle.scene.specs.declared.Refusal.{Refusal}
use Rattle.scene.specs.declared.Refusal.TheVariants.{NoRegion, CutShort, UnknownKind, IdentifierZero, DeclaredTwice, TooManyRegions, NotDeclared, EmptySet, BytesLeft}
use Rattle.scene.specs.Numbers.{number_of, answer_of as readingAnswer}
use Rattle.scene.specs.Reading.{read_of, refused_at}
use Rattle.scene.specs.Reads.{Reads, areas_after}
use Rattle.scene.proofs.Endings.{wrong_areas}
use Rattle.writer.specs.declared.Unwritten.{Unwritten}
use Rattle.writer.specs.Numbers.{answer_of as writingAnswer}
use Rattle.writer.specs.Writes.{Writes}
use Rattle.chachaqom.specs.RefineExport.{RefineExport}
use Rattle.chachaqom.specs.PrepareExport.{PrepareExport}
use Rattle.chachaqom.specs.RunExport.{is_area, area_of, run_of, RunExport}
use Rattle.chachaqom.specs.ReadExport.{lent_in, lent_bytes, ReadExport}
use Rattle.chachaqom.specs.Inner.{HandedOver}
use Rattle.chachaqom.specs.WriteExport.{identifiers_lent, WriteExport}

-- ---- refining

-- an answer area of another length
pub refine_unfit : (n : ℕ) (cells first second answer : List ℕ) → (length answer ≡ 20 → ⊥)
    → RefineExport n cells first second answer first second answer 2
refine_unfit n cells first second answer h = record {
  answers = unfit_answers _ answer h;
  in_first = unfit_leaves answer _ first h;
  in_second = unfit_leaves answer _ second h;
}

-- what the refinement left, and its verdict's numbers
pub refine-answered : {n : ℕ} {cells first second answer first' second' answer' : List ℕ} {number : ℕ} {verdict : Verdict} {numbers : Answer}
    → length answer ≡ 20 → Refined n cells first second first' second' verdict → numbers ≡ verdictAnswer verdict
    → Answers numbers answer answer' number → RefineExport n cells first second answer first' second' answer' number
refine-answered {first = first} {second = second} {answer = answer} h r e a = record {
  answers = same-answers (e ∙ r.answer) a;
  in_first = fit_leaves answer first h r.in_first;
  in_second = fit_leaves answer second h r.in_second;
}

-- ---- preparing

-- an answer area of another length
pub prepare_unfit : (n : ℕ) (cells first second answer : List ℕ) → (length answer ≡ 20 → ⊥)
    → PrepareExport n cells first second answer first second answer 2
prepare_unfit n cells first second answer h = record {
  answers = unfit_answers _ answer h;
  in_first = unfit_leaves answer _ first h;
  in_second = unfit_leaves answer _ second h;
}

-- what the preparation left, and its numbers
pub prepare_answered : {n : ℕ} {cells first second answer first' second' answer' : List ℕ} {number : ℕ} {start : Start} {numbers : Answer}
    → length answer ≡ 20 → Prepared n cells first second first' second' start → numbers ≡ answer_of_start start
    → Answers numbers answer answer' number → PrepareExport n cells first second answer first' second' answer' number
prepare_answered {first = first} {second = second} {answer = answer} h p e a = record {
  answers = same-answers (e ∙ p.answer) a;
  in_first = fit_leaves answer first h p.in_first;
  in_second = fit_leaves answer second h p.in_second;
}

-- ---- running

-- an answer area of another length
pub run_unfit : (n area most : ℕ) (first second answer : List ℕ) → (length answer ≡ 20 → ⊥)
    → RunExport n area most first second answer first second answer 2
run_unfit n area most first second answer h = record {
  answers = unfit_answers _ answer h;
  in_first = unfit_leaves answer _ first h;
  in_second = unfit_leaves answer _ second h;
}

module _ (n area most : ℕ) (first second : List ℕ) where
  -- a number that is no area
  pub no_area : is_area area ≡ false → run_of n area most first second ≡ refused (answer 1 0 0 0 0)
  unfolding run_of
  no_area e = rw e

  pub an_area : is_area area ≡ true → run_of n area most first second ≡ ran_from n (area_of area) most first second
  unfolding run_of
  an_area e = rw e

  untouched_by_run : is_area area ≡ false → (which : Area) (held : List ℕ)
      → held ≡ left_by n (area_of area) (starts_from n (area_of area) first second) (run_of n area most first second) which held
  unfolding left_by
  untouched_by_run e which held = rw (no_area e)

-- what a number that stands for an area says of it, and one that stands for none
pub area_told : (number : ℕ) {area : Area} → ◌≡◌ {A = Result Area Unrefined} (Ok area) (area_numbered number)
    → (is_area number ≡ true) × (area ≡ area_of number)
area_told number {area} e =
    by_test (eqb number 1)
    (λ u.
    let other : eqb number 2 ≡ false = ne_eqb number 2 (λ z. omega (arith, eqb-true number 1 u)) in
    let same : ◌≡◌ {A = Result Area Unrefined} (Ok area) (Ok First) = rw u at e in
    (rw u, rw other (cc)))
    (λ u. by_test (eqb number 2)
    (λ v. let same : ◌≡◌ {A = Result Area Unrefined} (Ok area) (Ok Second) = rw (u, v) at e in (rw (u, v), rw v (cc)))
    (λ v. let none : ◌≡◌ {A = Result Area Unrefined} (Ok area) (Err OutOfRange) = rw (u, v) at e in absurd (cc)))

pub no_area_told : (number : ℕ) {why : Unrefined} → ◌≡◌ {A = Result Area Unrefined} (Err why) (area_numbered number) → is_area number ≡ false
no_area_told number {why} e =
    by_test (eqb number 1)
    (λ u. let some : ◌≡◌ {A = Result Area Unrefined} (Err why) (Ok First) = rw u at e in absurd (cc))
    (λ u. by_test (eqb number 2)
    (λ v. let some : ◌≡◌ {A = Result Area Unrefined} (Err why) (Ok Second) = rw (u, v) at e in absurd (cc))
    (λ v. rw (u, v)))

pub run_no_area : {n area most : ℕ} {first second answer answer' : List ℕ} {number : ℕ} {numbers : Answer} → length answer ≡ 20
    → is_area area ≡ false → numbers ≡ verdictAnswer (Err OutOfRange) → Answers numbers answer answer' number
    → RunExport n area most first second answer first second answer' number
run_no_area {n} {area} {most} {first} {second} {answer} h f e a = record {
  answers = rw (no_area n area most first second f) (same-answers e a);
  in_first = fit_leaves answer first h (untouched_by_run n area most first second f First first);
  in_second = fit_leaves answer second h (untouched_by_run n area most first second f Second second);
}

-- what the rounds left, and their verdict's numbers
pub run_answered : {n area most : ℕ} {from : Area} {first second answer first' second' answer' : List ℕ} {number : ℕ} {verdict : Verdict}
    {numbers : Answer} → length answer ≡ 20 → is_area area ≡ true → from ≡ area_of area → Ran n from most first second first' second' verdict
    → numbers ≡ verdictAnswer verdict → Answers numbers answer answer' number
    → RunExport n area most first second answer first' second' answer' number
run_answered {n} {area} {most} {from} {first} {second} {answer} h i f r e a =
    let same = an_area n area most first second i in
    let r' = rw f at r in
    record {
      answers = rw same (same-answers (e ∙ r'.answer) a);
      in_first = fit_leaves answer first h (rw same r'.in_first);
      in_second = fit_leaves answer second h (rw same r'.in_second);
    }

-- ---- reading

-- an answer area of another length
pub read_unfit : (scene identifiers cells marks answer : List ℕ) → (length answer ≡ 20 → ⊥)
    → ReadExport scene identifiers cells marks answer identifiers cells marks answer 2
read_unfit scene identifiers cells marks answer h = record {
  answers = unfit_answers _ answer h;
  in_identifiers = unfit_leaves answer _ identifiers h;
  in_cells = unfit_leaves answer _ cells h;
  in_marks = unfit_leaves answer _ marks h;
}

-- identifiers or marks of another length lend too few
no_identifiers : (identifiers cells marks : List ℕ) → (length identifiers ≡ 256 → ⊥) → Lent (lent_bytes identifiers cells marks) → ⊥
no_identifiers identifiers cells marks h lent =
    let none : lent_in 256 lent_identifiers identifiers ≡ [] = rw (ne_eqb (length identifiers) 256 h) in
    omega (arith, lent.identifiers-long, ap length none)

no_marks : (identifiers cells marks : List ℕ) → (length marks ≡ 8192 → ⊥) → Lent (lent_bytes identifiers cells marks) → ⊥
no_marks identifiers cells marks h lent =
    let none : lent_in 8192 lent_cells marks ≡ [] = rw (ne_eqb (length marks) 8192 h) in
    omega (arith, lent.marks-long, ap length none)

-- which is 2, and all areas as they were
nothing_lent : (scene : List ℕ) (areas : Areas) → (Lent areas → ⊥) → read_of scene areas ≡ refused_at 2 0
nothing_lent scene areas h = wrong_areas scene areas (by_test (are_lent areas) (λ e. absurd (h (lent_so areas e))) (λ e. e))

untouched : (areas : Areas) → areas_after (refused_at 2 0) areas ≡ areas
unfolding areas_after
untouched areas = refl

read_unlent : {scene identifiers cells marks answer answer' : List ℕ} {number : ℕ} {numbers : Answer} → length answer ≡ 20
    → (Lent (lent_bytes identifiers cells marks) → ⊥) → numbers ≡ readingAnswer (Err WrongLength) → Answers numbers answer answer' number
    → ReadExport scene identifiers cells marks answer identifiers cells marks answer' number
read_unlent {scene} {identifiers} {cells} {marks} {answer} h l e a =
    let ending : read_of scene (lent_bytes identifiers cells marks) ≡ refused_at 2 0 = nothing_lent scene (lent_bytes identifiers cells marks) l in
    record {
      answers = same-answers (e ∙ sym (ap answered ending)) a;
      in_identifiers = fit_leaves answer identifiers h (rw ending);
      in_cells = fit_leaves answer cells h
          (rw ending (sym (ap (λ (x : Areas). x.cells) (untouched (lent_bytes identifiers cells marks)))));
      in_marks = fit_leaves answer marks h (rw ending);
    }

module _ {scene identifiers cells marks answer answer' : List ℕ} {number : ℕ} {numbers : Answer} (h : length answer ≡ 20) where
  pub read_no_identifiers : (length identifiers ≡ 256 → ⊥) → numbers ≡ readingAnswer (Err WrongLength) → Answers numbers answer answer' number
      → ReadExport scene identifiers cells marks answer identifiers cells marks answer' number
  read_no_identifiers l = read_unlent h (no_identifiers identifiers cells marks l)

  pub read_no_marks : (length marks ≡ 8192 → ⊥) → numbers ≡ readingAnswer (Err WrongLength) → Answers numbers answer answer' number
      → ReadExport scene identifiers cells marks answer identifiers cells marks answer' number
  read_no_marks l = read_unlent h (no_marks identifiers cells marks l)

-- areas of the right lengths as they are lent
pub lent-whole : (identifiers cells marks : List ℕ) → length identifiers ≡ 256 → length marks ≡ 8192
    → lent_bytes identifiers cells marks ≡ holding (replicate 64 0) cells (replicate 4096 0)
lent-whole identifiers cells marks l k = rw (eq-eqb (length identifiers) 256 l, eq-eqb (length marks) 8192 k)

-- what the reading left, and its numbers; after 2 identifiers and marks are as they were
pub read_answered : {scene identifiers cells marks answer numbers statements identifiers' cells' marks' answer' : List ℕ} {number : ℕ}
    {reading : Result ℕ Unread} {told : Answer} → length answer ≡ 20 → length identifiers ≡ 256 → length marks ≡ 8192
    → Reads scene (holding (replicate 64 0) cells (replicate 4096 0)) (holding numbers cells' statements) reading
    → HandedOver (readingAnswer reading).number numbers statements identifiers marks identifiers' marks' → told ≡ readingAnswer reading
    → Answers told answer answer' number → ReadExport scene identifiers cells marks answer identifiers' cells' marks' answer' number
read_answered {scene} {identifiers} {cells} {marks} {answer} {numbers} {statements} h l k r o e a =
    let before : Areas = holding (replicate 64 0) cells (replicate 4096 0) in
    let lent = lent-whole identifiers cells marks l k in
    record {
      answers = rw lent (same-answers (e ∙ r.answer) a);
      in_identifiers = fit_leaves answer identifiers h
          (rw lent
          (o.in_identifiers ∙ ap (λ (x : Answer). cond (eqb x.number 2) identifiers (numbers_bytes numbers)) r.answer
          ∙ ap (λ (x : Areas). cond (eqb (answered (read_of scene before)).number 2) identifiers (numbers_bytes x.identifiers)) r.areas));
      in_cells = fit_leaves answer cells h (rw lent (ap (λ (x : Areas). x.cells) r.areas));
      in_marks = fit_leaves answer marks h
          (rw lent
          (o.in_marks ∙ ap (λ (x : Answer). cond (eqb x.number 2) marks (two_bytes_each statements)) r.answer
          ∙ ap (λ (x : Areas). cond (eqb (answered (read_of scene before)).number 2) marks (two_bytes_each x.marks)) r.areas));
    }

-- what a reading leaves is handed over as bytes where its number is not 2
pub handed-over : {number : ℕ} {numbers statements identifiers marks identifiers' marks' : List ℕ} → eqb number 2 ≡ false
    → identifiers' ≡ numbers_bytes numbers → marks' ≡ two_bytes_each statements
    → HandedOver number numbers statements identifiers marks identifiers' marks'
handed-over h e f = record { in_identifiers = rw h e; in_marks = rw h f }

-- no refused record has the number 2
pub not_two : (refusal : Refusal) → eqb (number_of refusal) 2 ≡ false
not_two NoRegion = refl
not_two CutShort = refl
not_two UnknownKind = refl
not_two IdentifierZero = refl
not_two DeclaredTwice = refl
not_two TooManyRegions = refl
not_two NotDeclared = refl
not_two EmptySet = refl
not_two BytesLeft = refl

-- nor has any reading but one of areas of another length
pub two_alone : (reading : Result ℕ Unread) → (reading ≡ Err WrongLength → ⊥) → eqb (readingAnswer reading).number 2 ≡ false
two_alone (Ok regions) h = refl
two_alone (Err WrongLength) h = absurd (h refl)
two_alone (Err TooLong) h = refl
two_alone (Err (Refused refusal at)) h = not_two refusal

-- ---- writing

-- an answer area of another length
pub write_unfit : (n : ℕ) (identifiers cells buffer answer : List ℕ) → AllBytes identifiers → AllBytes cells → (length answer ≡ 20 → ⊥)
    → WriteExport n identifiers cells buffer answer buffer answer 2
write_unfit n identifiers cells buffer answer b d h = record {
  answers = unfit_answers _ answer h;
  in_buffer = unfit_leaves answer _ buffer h;
  identifiers-bytes = b;
  cells-bytes = d;
}

-- what the writer left, and its answer's numbers
pub write_answered : {n : ℕ} {identifiers cells buffer answer buffer' answer' : List ℕ} {number : ℕ} {writing : Result ℕ Unwritten} {numbers : Answer}
    → AllBytes identifiers → AllBytes cells → length answer ≡ 20 → Writes n (identifiers_lent n identifiers) cells buffer buffer' writing
    → numbers ≡ writingAnswer writing → Answers numbers answer answer' number
    → WriteExport n identifiers cells buffer answer buffer' answer' number
write_answered {buffer = buffer} {answer = answer} b d h w e a = record {
  answers = same-answers (e ∙ w.answer) a;
  in_buffer = fit_leaves answer buffer h w.buffer;
  identifiers-bytes = b;
  cells-bytes = d;
}
