-- The class rule on the report itself: in an accepted scene's report every pair's letter is the one that the rule gives.
use mathlib.Core.Path.{◌≡◌, ap, ◌∙◌}
use mathlib.Core.List.{List}
use Prim.Native.Nat.{ℕ}
use native.Mathlib.Omega.{arith}
use borrow.Fn.Kinds.{Dens, res_t, ended_of}
use contract.Lifetimes.{Lfts}
use denote.Triple.Clauses.{AtExit}
use lib.ListN.{length, take}
use lib.Seq.{take_all}
use Rattle.lists.proofs.LaidLaws.{take-laid}
use Rattle.answer.specs.Ending.{accepted}
use Rattle.refinement.specs.Refine.{refine}
use Rattle.filing.specs.Said.{Said, regions}
use Rattle.filing.specs.Stated.{cells_of}
use Rattle.filing.specs.Marks.{marks_of}
use Rattle.scene.specs.Reading.{accepted_said, read_scene}
use Rattle.scene.specs.Reads.{starting_cell}
use Rattle.report_text.specs.Report.{refined_report, read_report, report_of, Reported}
use Rattle.report_text.specs.Letters.{Shows}
use Rattle.report_text.proofs.ClassLaws.{sizes_occur, class_rule}
use Rattle.report_text.proofs.report.Kinds as reporting
use Rattle.report_text.proofs.report.Reads.{Post as Reports}

-- what stands in front of the buffer is the report
pub printed : {scene buffer buffer' : List ℕ} {count : ℕ} → Reported scene buffer buffer' count → take count buffer' ≡ report_of scene
printed {scene} {buffer} {count = count} call =
    let whole : count ≡ length (report_of scene) = call.size in
    ap (take count) call.text ∙ take-laid count (report_of scene) buffer (omega arith) ∙ take_all count (report_of scene) (omega arith)

module _ {scene buffer buffer' : List ℕ} {count : ℕ} (call : Reported scene buffer buffer' count) {said : Said} {network : List ℕ} {rounds : ℕ}
    (read : read_scene scene ≡ accepted_said said) (refined : refine (regions said) (cells_of starting_cell said) ≡ accepted network rounds) where
  abbrev n : ℕ
  n = regions said

  abbrev stated : List ℕ
  stated = cells_of starting_cell said

  abbrev marks : List ℕ
  marks = marks_of starting_cell said

  pub report_shows : Shows (regions said) said.identifiers (cells_of starting_cell said) (marks_of starting_cell said) network rounds count buffer'
  unfolding report_of
  report_shows = record {
    text = printed call ∙ ap read_report read ∙ ap (refined_report n said.identifiers stated marks) refined;
    rule = λ i j h hj. class_rule n stated refined i j (omega arith) hj;
    sizes = λ i j h hj. sizes_occur n stated refined i j (omega arith) hj;
  }

-- about the call itself
pub report_call_shows : (κs : Lfts 2) (a : Dens κs reporting.ps) (count : (res_t reporting.r κs).Denot)
    (s : AtExit (ended_of 2 reporting.ps reporting.r) κs) → Reports κs a count s → {said : Said} {network : List ℕ} {rounds : ℕ}
    → read_scene a.0.now ≡ accepted_said said → refine (regions said) (cells_of starting_cell said) ≡ accepted network rounds
    → Shows (regions said) said.identifiers (cells_of starting_cell said) (marks_of starting_cell said) network rounds count s.1.0.now
report_call_shows κs a count s call read refined = report_shows call read refined
