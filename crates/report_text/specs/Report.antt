-- The report of a scene, as bytes.
use Rattle.std.specs.Prelude.{◌≡◌, ℕ, zero, suc, ◌*◌, ◌-◌, cond, List, [], ◌∷◌, ◌++◌, ltb, leb, length, get_or}
use Rattle.relation.specs.Sets.{size}
use Rattle.matrix.specs.Cells.{cell, row, column}
use Rattle.lists.specs.Laid.{laid}
use Rattle.answer.specs.Answer.{Answer}
use Rattle.answer.specs.Ending.{Ending, accepted, refused}
use Rattle.refinement.specs.Prepare.{prepared}
use Rattle.refinement.specs.Refine.{refine}
use Rattle.filing.specs.Said.{Said, regions}
use Rattle.filing.specs.Stated.{cells_of}
use Rattle.filing.specs.Marks.{marks_of}
use Rattle.scene.specs.Reading.{read_scene}
use Rattle.scene.specs.Reads.{starting_cell}
use Rattle.text.specs.Decimal.{decimal}
use Rattle.text.specs.Line.{line}
use Rattle.report_text.specs.Class.{class_of}
use Rattle.report_text.specs.Words.{accepted_word, refused_word}

-- ---- lines

-- the first line: the word, the number of regions and the rounds
abbrev pub accepted_line : ℕ → ℕ → List ℕ
accepted_line regions rounds = line (accepted_word ∷ decimal regions ∷ decimal rounds ∷ [])

-- a refusal's one line: the word, the number and three fields
abbrev pub refusal_line : ℕ → ℕ → ℕ → ℕ → List ℕ
refusal_line number first second third =
    line (refused_word ∷ decimal number ∷ decimal first ∷ decimal second ∷ decimal third ∷ [])

-- the line of a pair: both identifiers, the refined set, the class by what the arc rule left, and the marks there and back
abbrev pub sets_line : ℕ → ℕ → ℕ → ℕ → ℕ → ℕ → List ℕ
sets_line first second arc refined there back =
    line (decimal first ∷ decimal second ∷ decimal refined ∷ (class_of (size arc) (size refined) ∷ []) ∷ decimal there ∷ decimal back ∷ [])

-- ---- pairs, with the matrix after the arc rule, the network and the marks

-- the letter of the regions at places i and j
abbrev pub letter : ℕ → List ℕ → List ℕ → ℕ → ℕ → ℕ
letter n arcs network i j = class_of (size (cell n arcs i j)) (size (cell n network i j))

-- their line
abbrev pub pair_line : ℕ → List ℕ → List ℕ → List ℕ → List ℕ → ℕ → ℕ → List ℕ
pair_line n identifiers arcs network marks i j =
    sets_line (get_or identifiers i 0) (get_or identifiers j 0) (cell n arcs i j) (cell n network i j) (cell n marks i j) (cell n marks j i)

-- the line of the cell at a place, where it is one of a pair i < j
abbrev pub cell_line : ℕ → List ℕ → List ℕ → List ℕ → List ℕ → ℕ → List ℕ
cell_line n identifiers arcs network marks p =
    cond (ltb (row n p) (column n p)) (pair_line n identifiers arcs network marks (row n p) (column n p)) []

-- the lines of the pairs i < j among the first `count` cells in row order
unfoldable pub pair_lines : ℕ → ℕ → List ℕ → List ℕ → List ℕ → List ℕ → List ℕ
pair_lines zero n identifiers arcs network marks = []
pair_lines (suc count) n identifiers arcs network marks =
    pair_lines count n identifiers arcs network marks ++ cell_line n identifiers arcs network marks count

-- ---- reports

-- how many regions a refusal of the matrix names: one at 21, two at 22, three at 23
abbrev pub named_by : ℕ → ℕ
named_by number = number - 20

-- the identifier of the region named as number k, or 0 where fewer are named
abbrev pub name_of : List ℕ → ℕ → ℕ → ℕ → ℕ
name_of identifiers number k place = cond (leb k (named_by number)) (get_or identifiers place 0) 0

-- the line of a refused matrix, by its numbers
abbrev pub answer_line : List ℕ → Answer → List ℕ
answer_line identifiers a =
    refusal_line a.number (name_of identifiers a.number 1 a.first) (name_of identifiers a.number 2 a.second)
    (name_of identifiers a.number 3 a.third)

-- the report of a refined matrix; the letters go by the stated sets after the arc rule, which takes both directions together
abbrev pub refined_report : ℕ → List ℕ → List ℕ → List ℕ → Ending (List ℕ) → List ℕ
refined_report n identifiers stated marks (accepted network count) =
    accepted_line n count ++ pair_lines (n * n) n identifiers (prepared n stated) network marks
refined_report n identifiers stated marks (refused numbers) = answer_line identifiers numbers

-- the report of what was said, with marks
abbrev pub said_report : Said → List ℕ → List ℕ
said_report said marks =
    let n : ℕ = regions said in
    let stated : List ℕ = cells_of starting_cell said in
    refined_report n said.identifiers stated marks (refine n stated)

-- the report of a reading, with its marks; a refused one names an offset
abbrev pub read_report : Ending Said → List ℕ
read_report (accepted said count) = said_report said (marks_of starting_cell said)
read_report (refused numbers) = refusal_line numbers.number numbers.first 0 0

-- the report of a scene
unfoldable pub report_of : List ℕ → List ℕ
report_of scene = read_report (read_scene scene)

-- what `report` promises: how long the report is, and that it stands in front of the buffer, whose rest is untouched
pub record Reported (scene buffer buffer' : List ℕ) (count : ℕ) : Type 0 where
  pub size : count ≡ length (report_of scene)
  pub text : buffer' ≡ laid count (report_of scene) buffer
