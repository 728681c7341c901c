-- What the report of an accepted scene shows: a line for each pair, with the letter of the document's rule.
use Rattle.std.specs.Prelude.{◌≡◌, List, ◌++◌, ℕ, ◌*◌, ◌<◌, take}
use Rattle.relation.specs.Sets.{size}
use Rattle.matrix.specs.Cells.{cell}
use Rattle.refinement.specs.Prepare.{prepared}
use Rattle.report_text.specs.Rule.{Rule, Occur}
use Rattle.report_text.specs.Report.{accepted_line, pair_lines, letter}

-- n regions with their identifiers, what was stated of them, its marks, the network that it was refined to and the rounds
pub record Shows (n : ℕ) (identifiers stated marks network : List ℕ) (rounds count : ℕ) (buffer : List ℕ) : Type 0 where
  -- the bytes printed
  pub text : take count buffer ≡ accepted_line n rounds ++ pair_lines (n * n) n identifiers (prepared n stated) network marks
  -- the letter in the line of i and j is the rule's, for the sizes after the arc rule and in the network, which are as the rule takes them
  pub rule : (i j : ℕ) → i < j → j < n
      → Rule (size (cell n (prepared n stated) i j)) (size (cell n network i j)) (letter n (prepared n stated) network i j)
  pub sizes : (i j : ℕ) → i < j → j < n → Occur (size (cell n (prepared n stated) i j)) (size (cell n network i j))
