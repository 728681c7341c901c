-- `preparing::node_and_arc` meets its contract: its tests are those of the definition.
use native.Mathlib.Omega.{arith}
use Rattle.lists.proofs.Found.{found_some, found_none}
use Rattle.network.proofs.Prepared.{prepares_region, prepares_pair, prepares_ready}
use Rattle.network.proofs.preparing.node_and_arc.Goals as goal

pub returns-in-Some : goal.returns-in-Some
returns-in-Some c =
    let found = found_some _ _ c.in-Some.ensures in prepares_region _ _ _ _ found.0 (omega (arith, found.0, found.1))

pub returns-in-Some-first_empty : goal.returns-in-Some-first_empty
returns-in-Some-first_empty c =
    prepares_pair _ _ _ (found_none _ _ c.in_default.ensures) _ c.arc_stage.ensures c.in-Some-first_empty.ensures

pub returns-in-None : goal.returns-in-None
returns-in-None c =
    prepares_ready _ _ _ (found_none _ _ c.in_default.ensures) _ c.arc_stage.ensures c.in-None.ensures
