-- `preparing::make_ready` meets its contract: what the two rules found decides.
use mathlib.Core.Path.{◌∙◌}
use Rattle.network.proofs.Prepared.{readies_ready, readies_refused}
use Rattle.network.proofs.preparing.make_ready.Goals as goal

pub returns-in-Err : goal.returns-in-Err
returns-in-Err c =
    let pre = c.requires in
    readies_refused c.node_and_arc.ensures pre.1 pre.2 (c.node_and_arc.auto.first ∙ c.requires.1.size) c.clear.ensures c.in-Err.is

pub returns : goal.returns
returns c =
    let pre = c.requires in readies_ready c.node_and_arc.ensures pre.1 pre.2 c.in_default.is
