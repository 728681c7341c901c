-- It does not matter in which direction a pair was stated: of scenes that agree after the arc rule the reports are the same but for the
-- marks, which tell the direction.
use mathlib.Core.Path.{◌≡◌, refl, sym, ap, ◌∙◌, subst}
use mathlib.Core.List.{List}
use Prim.Native.Nat.{ℕ, ◌<◌}
use borrow.Fn.Kinds.{Dens, res_t, ended_of}
use contract.Lifetimes.{Lfts}
use denote.Triple.Clauses.{AtExit}
use lib.ListN.{length}
use Rattle.answer.specs.Answer.{Answer}
use Rattle.answer.specs.Ending.{Ending, accepted, refused}
use Rattle.matrix.specs.Cells.{cell, grid}
use Rattle.matrix.proofs.CellLaws.{cell-grid}
use Rattle.refinement.specs.Prepare.{prepared}
use Rattle.refinement.specs.Refine.{refine}
use Rattle.refinement.proofs.ArcStage.{SameArcs, same-arcs, same_refinement}
use Rattle.filing.specs.Said.{Statement, Said, regions}
use Rattle.filing.specs.Stated.{stated_cell, cells_of}
use Rattle.filing.specs.Marks.{marks_of}
use Rattle.filing.specs.Turned.{Turned}
use Rattle.filing.proofs.TurnedLaws.{turned_pair, turned_region}
use Rattle.scene.specs.Reading.{accepted_said, read_scene}
use Rattle.scene.specs.Reads.{starting_cell}
use Rattle.report_text.specs.Report.{letter, refined_report, said_report, read_report, report_of, Reported}
use Rattle.report_text.specs.Letters.{Shows}
use Rattle.report_text.specs.Directions.{SameArcStage, Redirected, ShowSame, SameButMarks}
use Rattle.report_text.proofs.Letters.{printed, report_shows}
use Rattle.report_text.proofs.report.Kinds as reporting
use Rattle.report_text.proofs.report.Reads.{Post as Reports}

-- ---- from statements to the arc stage

-- turned statements leave it as it is
module _ (n : ℕ) (start : ℕ → ℕ → ℕ) {one other : List Statement} (t : Turned one other) where
  at_cell : (statements : List Statement) (i j : ℕ) → i < n → j < n
      → cell n (grid n (stated_cell start statements)) i j ≡ stated_cell start statements i j
  at_cell statements = cell-grid n (stated_cell start statements)

  turned_same : SameArcs n (grid n (stated_cell start one)) (grid n (stated_cell start other))
  turned_same = record {
    regions = λ i h. rw (at_cell one i i h h, at_cell other i i h h) (turned_region start i t);
    pairs = λ i j hi hj d.
        rw (at_cell one i j hi hj, at_cell one j i hj hi, at_cell other i j hi hj, at_cell other j i hj hi) (turned_pair start i j t);
  }

  pub turned-arcs : prepared n (grid n (stated_cell start one)) ≡ prepared n (grid n (stated_cell start other))
  turned-arcs = same-arcs n (grid n (stated_cell start one)) (grid n (stated_cell start other)) turned_same

pub redirected_agree : {one other : Said} → Redirected one other → SameArcStage one other
redirected_agree {one} {other} r = record {
  identifiers = r.identifiers;
  arcs = turned-arcs (regions one) starting_cell r.statements
      ∙ ap (λ (identifiers : List ℕ). prepared (regions one) (grid (length identifiers) (stated_cell starting_cell other.statements))) r.identifiers;
}

-- ---- from the arc stage to the report

same-letters : (n : ℕ) (identifiers one other marks : List ℕ) → prepared n one ≡ prepared n other → (ending : Ending (List ℕ))
    → refined_report n identifiers one marks ending ≡ refined_report n identifiers other marks ending
same-letters n identifiers one other marks e (accepted network count) = rw e
same-letters n identifiers one other marks e (refused numbers) = refl

-- with the same marks the reports are the same
agree_report : {one other : Said} → SameArcStage one other → (marks : List ℕ) → said_report one marks ≡ said_report other marks
agree_report {one} {other} a marks =
    let n : ℕ = regions one in
    let here : List ℕ = cells_of starting_cell one in
    let there : List ℕ = cells_of starting_cell other in
    same-letters n one.identifiers here there marks a.arcs (refine n here)
    ∙ ap (refined_report n one.identifiers there marks) (same_refinement n here there a.arcs)
    ∙ ap (λ (identifiers : List ℕ). refined_report (length identifiers) identifiers there marks (refine (length identifiers) there)) a.identifiers

-- a refusal has no marks
refusal_unmarked : (said : Said) (marks other : List ℕ) {numbers : Answer}
    → refine (regions said) (cells_of starting_cell said) ≡ refused numbers → said_report said marks ≡ said_report said other
refusal_unmarked said marks other e =
    let report : List ℕ → Ending (List ℕ) → List ℕ = refined_report (regions said) said.identifiers (cells_of starting_cell said) in
    ap (report marks) e ∙ sym (ap (report other) e)

module _ {scene scene' buffer buffer₁ other other₁ : List ℕ} {count count' : ℕ} (p : Reported scene buffer buffer₁ count)
    (q : Reported scene' other other₁ count') {said said' : Said} (read : read_scene scene ≡ accepted_said said)
    (read' : read_scene scene' ≡ accepted_said said') (a : SameArcStage said said') where
  abbrev here : List ℕ
  here = cells_of starting_cell said

  abbrev there : List ℕ
  there = cells_of starting_cell said'

  report_here : report_of scene ≡ said_report said (marks_of starting_cell said)
  unfolding report_of
  report_here = ap read_report read

  report_there : report_of scene' ≡ said_report said (marks_of starting_cell said')
  unfolding report_of
  report_there = ap read_report read' ∙ sym (agree_report a (marks_of starting_cell said'))

  refined-there : {network : List ℕ} {rounds : ℕ} → refine (regions said) here ≡ accepted network rounds
      → refine (regions said') there ≡ accepted network rounds
  refined-there e =
      sym (ap (λ (identifiers : List ℕ). refine (length identifiers) there) a.identifiers)
      ∙ sym (same_refinement (regions said) here there a.arcs)
      ∙ e

  shown-same : (network : List ℕ) (rounds : ℕ) → refine (regions said) here ≡ accepted network rounds
      → ShowSame said said' network rounds count buffer₁ count' other₁
  shown-same network rounds e = record {
    here = report_shows p read e;
    there = subst
        (λ (identifiers : List ℕ). Shows (length identifiers) identifiers there (marks_of starting_cell said') network rounds count' other₁)
        (sym a.identifiers) (report_shows q read' (refined-there e));
    letters = λ i j h hj. ap (λ (arcs : List ℕ). letter (regions said) arcs network i j) a.arcs;
  }

  pub agreed : SameButMarks said said' count buffer₁ count' other₁
  agreed = record {
    here = printed p ∙ report_here;
    there = printed q ∙ report_there;
    shown = shown-same;
    refusal = λ numbers e.
        let same = report_here ∙ refusal_unmarked said (marks_of starting_cell said) (marks_of starting_cell said') e ∙ sym report_there in
        (p.size ∙ ap length same ∙ sym q.size, printed p ∙ same ∙ sym (printed q));
  }

-- ---- about two calls

pub agreeing_calls : (κs μs : Lfts 2) (a : Dens κs reporting.ps) (b : Dens μs reporting.ps)
    (count : (res_t reporting.r κs).Denot) (count' : (res_t reporting.r μs).Denot)
    (s : AtExit (ended_of 2 reporting.ps reporting.r) κs) (t : AtExit (ended_of 2 reporting.ps reporting.r) μs)
    → Reports κs a count s → Reports μs b count' t → {said said' : Said} → read_scene a.0.now ≡ accepted_said said
    → read_scene b.0.now ≡ accepted_said said' → SameArcStage said said'
    → SameButMarks said said' count s.1.0.now count' t.1.0.now
agreeing_calls κs μs a b count count' s t p q read read' agree = agreed p q read read' agree

-- so from whichever side an author states a pair, the report is the same but for the marks
pub redirected_calls : (κs μs : Lfts 2) (a : Dens κs reporting.ps) (b : Dens μs reporting.ps)
    (count : (res_t reporting.r κs).Denot) (count' : (res_t reporting.r μs).Denot)
    (s : AtExit (ended_of 2 reporting.ps reporting.r) κs) (t : AtExit (ended_of 2 reporting.ps reporting.r) μs)
    → Reports κs a count s → Reports μs b count' t → {said said' : Said} → read_scene a.0.now ≡ accepted_said said
    → read_scene b.0.now ≡ accepted_said said' → Redirected said said'
    → SameButMarks said said' count s.1.0.now count' t.1.0.now
redirected_calls κs μs a b count count' s t p q read read' r = agreed p q read read' (redirected_agree r)
