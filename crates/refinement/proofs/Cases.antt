-- The twelve cases of document 01 together, and the one with four regions, by one computed test of the definitions.
use lib.Dec.{T}
use Rattle.lists.specs.Least.{least_from, least}
use Rattle.relation.specs.Sets.{has, union_of, over}
use Rattle.relation.specs.Converse.{flip, converse}
use Rattle.relation.specs.Composition.{rows, table, compose}
use Rattle.matrix.specs.Square.{in_range, has_square}
use Rattle.lists.specs.Tabled.{tabled}
use Rattle.matrix.specs.Cells.{grid, first_empty, first_change}
use Rattle.refinement.specs.Node.{node, empty_region}
use Rattle.refinement.specs.Arc.{arc}
use Rattle.refinement.specs.Prepare.{preparation}
use Rattle.refinement.specs.Round.{through, round, ran_out}
use Rattle.refinement.specs.Step.{step_of}
use Rattle.refinement.specs.Refine.{most_rounds, rounds, refine, refined}
use Rattle.refinement.specs.Cases.{state, has_entries, same_numbers, meets_expected, right, all_right, case, cases, four_regions}

computed : T (all_right cases) × T (all_right four_regions)
unfolding cases four_regions case all_right right meets_expected same_numbers has_entries state
    refined refine preparation rounds step_of most_rounds node empty_region arc round through ran_out
    in_range has_square grid tabled first_empty first_change least least_from
    converse flip compose table rows over union_of has
computed = (tt, tt)

-- all twelve come out as the document says
pub cases-right : T (all_right cases)
cases-right = computed.0

pub four_regions_right : T (all_right four_regions)
four_regions_right = computed.1
