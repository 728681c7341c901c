-- What the functions inside the crate need and promise; no public contract cites it.
use Rattle.std.specs.Prelude.{◌≡◌, ℕ, zero, suc, ◌+◌, ◌*◌, ◌≤◌, List, [], ◌++◌, length, take}
use Rattle.answer.specs.Ending.{Ending}
use Rattle.text.specs.declared.Page.{Page}
use Rattle.text.specs.Put.{AddsOn}
use Rattle.report_text.specs.declared.Stated.{Stated}
use Rattle.report_text.specs.declared.lines.Pairs.{Pairs}
use Rattle.report_text.specs.Report.{pair_line, pair_lines, refined_report}

-- the line of the regions at places i and j
abbrev pub line_of : Pairs → ℕ → ℕ → List ℕ
line_of p i j = pair_line p.stated.n p.stated.identifiers.now p.arcs.now p.network.now p.stated.marks.now i j

-- the lines of the region at place i with the first `count` regions behind it
unfoldable pub row_lines : Pairs → ℕ → ℕ → List ℕ
row_lines p i zero = []
row_lines p i (suc count) = row_lines p i count ++ line_of p i (i + 1 + count)

-- the lines of the pairs among the first `count` cells
abbrev pub lines_below : Pairs → ℕ → List ℕ
lines_below p count = pair_lines count p.stated.n p.stated.identifiers.now p.arcs.now p.network.now p.stated.marks.now

-- what stands in front of the areas that a scene of n regions was read into
pub record InFront (n : ℕ) (identifiers cells marks : List ℕ) (s : Stated) : Type 0 where
  pub regions : s.n ≡ n
  pub named : s.identifiers.now ≡ identifiers
  pub stated : s.cells.now ≡ take (n * n) cells
  pub marked : s.marks.now ≡ take (n * n) marks

-- the report of what was stated, by how its refinement ends
abbrev pub report_by : Stated → Ending (List ℕ) → List ℕ
report_by s ending = refined_report s.n s.identifiers.now s.cells.now s.marks.now ending

-- a report stands at the beginning of the buffer where there is room for it, and it is never longer than a buffer
pub record Reports (text : List ℕ) (page page' : Page) : Type 0 where
  pub adds : AddsOn text page page'
  pub short : length text ≤ 131072
