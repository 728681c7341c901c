-- The documents' example scenes: their reports, by computation.
use mathlib.Core.Path.{◌≡◌, refl}
use mathlib.Core.List.{List, [], ◌∷◌, ◌++◌}
use Prim.Native.Nat.{ℕ}
use lib.Chars.{codes}
use Rattle.lists.specs.Least.{least_from, least}
use Rattle.region.specs.Lookup.{lookup_of}
use Rattle.relation.specs.Sets.{has, union_of, over, members_below, size}
use Rattle.relation.specs.Converse.{flip, converse}
use Rattle.relation.specs.Composition.{rows, table, compose}
use Rattle.lists.specs.Tabled.{tabled}
use Rattle.matrix.specs.Cells.{grid, first_empty, first_change}
use Rattle.refinement.specs.Node.{node, empty_region}
use Rattle.refinement.specs.Arc.{arc}
use Rattle.refinement.specs.Round.{through, round, ran_out}
use Rattle.refinement.specs.Prepare.{preparation}
use Rattle.refinement.specs.Step.{step_of}
use Rattle.refinement.specs.Refine.{most_rounds, rounds, refine}
use Rattle.scene.specs.Format.{length_of}
use Rattle.filing.specs.Places.{place_of}
use Rattle.filing.specs.Stated.{stated_cell}
use Rattle.filing.specs.Marks.{mark_of}
use Rattle.scene.specs.Record.{judged_region, judged_statement, judged_end, record_at}
use Rattle.scene.specs.Reading.{read_from, read_scene}
use Rattle.text.specs.Decimal.{decimal_up_to}
use Rattle.text.specs.Line.{line}
use Rattle.report_text.specs.Class.{class_of}
use Rattle.report_text.specs.Report.{pair_lines, report_of}

-- the example, with its third identifier
pub example : ℕ → List ℕ
example third =
    (1 ∷ 0 ∷ 0 ∷ 0 ∷ 7 ∷ [])
    ++ (1 ∷ 0 ∷ 0 ∷ 0 ∷ 9 ∷ [])
    ++ (1 ∷ 0 ∷ 0 ∷ 0 ∷ third ∷ [])
    ++ (2 ∷ 0 ∷ 0 ∷ 0 ∷ 7 ∷ 0 ∷ 0 ∷ 0 ∷ 9 ∷ 8 ∷ [])
    ++ (2 ∷ 0 ∷ 0 ∷ 0 ∷ 9 ∷ 0 ∷ 0 ∷ 0 ∷ 4 ∷ 8 ∷ [])
    ++ (3 ∷ [])

-- its report
pub example_text : List ℕ
example_text = codes "accepted 3 1\n7 9 8 O 1 0\n7 4 8 D 0 0\n9 4 8 O 2 0\n"

pub example_report : report_of (example 4) ≡ example_text
unfolding report_of pair_lines class_of line decimal_up_to read_scene read_from record_at judged_region judged_statement judged_end place_of
    length_of lookup_of stated_cell mark_of grid tabled refine preparation step_of node empty_region arc rounds round through
    ran_out most_rounds first_empty first_change least least_from has union_of over members_below size flip converse rows table compose
    example example_text
example_report = refl

-- the pair 7 and 9 stated backwards alone, "9 contains 7", and its report
pub backwards : List ℕ
backwards =
    (1 ∷ 0 ∷ 0 ∷ 0 ∷ 7 ∷ []) ++ (1 ∷ 0 ∷ 0 ∷ 0 ∷ 9 ∷ []) ++ (2 ∷ 0 ∷ 0 ∷ 0 ∷ 9 ∷ 0 ∷ 0 ∷ 0 ∷ 7 ∷ 32 ∷ []) ++ (3 ∷ [])

pub backwards_text : List ℕ
backwards_text = codes "accepted 2 0\n7 9 8 O 0 1\n"

pub backwards_report : report_of backwards ≡ backwards_text
unfolding report_of pair_lines class_of line decimal_up_to read_scene read_from record_at judged_region judged_statement judged_end place_of
    length_of lookup_of stated_cell mark_of grid tabled refine preparation step_of node empty_region arc rounds round through
    ran_out most_rounds first_empty first_change least least_from has union_of over members_below size flip converse rows table compose
    backwards backwards_text
backwards_report = refl

-- with the third identifier 9 as well
pub twice_text : List ℕ
twice_text = codes "refused 7 10 0 0\n"

pub twice_report : report_of (example 9) ≡ twice_text
unfolding report_of line decimal_up_to read_scene read_from record_at judged_region judged_statement judged_end place_of length_of lookup_of
    example twice_text
twice_report = refl
