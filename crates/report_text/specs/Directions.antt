-- Two readings that say the same of each pair in both directions together, and what their reports have in common.
use Rattle.std.specs.Prelude.{◌≡◌, List, ℕ, ◌<◌, take}
use Rattle.answer.specs.Answer.{Answer}
use Rattle.answer.specs.Ending.{accepted, refused}
use Rattle.refinement.specs.Prepare.{prepared}
use Rattle.refinement.specs.Refine.{refine}
use Rattle.filing.specs.Said.{Said, regions}
use Rattle.filing.specs.Stated.{cells_of}
use Rattle.filing.specs.Marks.{marks_of}
use Rattle.filing.specs.Turned.{Turned}
use Rattle.scene.specs.Reads.{starting_cell}
use Rattle.report_text.specs.Report.{letter, said_report}
use Rattle.report_text.specs.Letters.{Shows}

-- they have the same regions and the same arc stage
pub record SameArcStage (one other : Said) : Type 0 where
  pub identifiers : one.identifiers ≡ other.identifiers
  pub arcs : prepared (regions one) (cells_of starting_cell one) ≡ prepared (regions one) (cells_of starting_cell other)

-- they differ in the direction of statements alone
pub record Redirected (one other : Said) : Type 0 where
  pub identifiers : one.identifiers ≡ other.identifiers
  pub statements : Turned one.statements other.statements

-- two accepted reports show the same regions, rounds and network, and the same letter for each pair
pub record ShowSame (one other : Said) (network : List ℕ) (rounds count : ℕ) (buffer : List ℕ) (count' : ℕ) (buffer' : List ℕ) : Type 0 where
  pub here : Shows (regions one) one.identifiers (cells_of starting_cell one) (marks_of starting_cell one) network rounds count buffer
  pub there : Shows (regions one) one.identifiers (cells_of starting_cell other) (marks_of starting_cell other) network rounds count' buffer'
  pub letters : (i j : ℕ) → i < j → j < regions one
      → letter (regions one) (prepared (regions one) (cells_of starting_cell one)) network i j
      ≡ letter (regions one) (prepared (regions one) (cells_of starting_cell other)) network i j

-- two reports are the same but for the marks
pub record SameButMarks (one other : Said) (count : ℕ) (buffer : List ℕ) (count' : ℕ) (buffer' : List ℕ) : Type 0 where
  -- each is the report of what the one says, with its own marks
  pub here : take count buffer ≡ said_report one (marks_of starting_cell one)
  pub there : take count' buffer' ≡ said_report one (marks_of starting_cell other)
  -- so an acceptance shows the same verdict, network and letters
  pub shown : (network : List ℕ) (rounds : ℕ) → refine (regions one) (cells_of starting_cell one) ≡ accepted network rounds
      → ShowSame one other network rounds count buffer count' buffer'
  -- and a refusal, which has no marks, is the same bytes
  pub refusal : (numbers : Answer) → refine (regions one) (cells_of starting_cell one) ≡ refused numbers
      → (count ≡ count') × (take count buffer ≡ take count' buffer')
