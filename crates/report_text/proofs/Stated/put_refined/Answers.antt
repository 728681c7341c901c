-- `report_text::Stated::put_refined` meets its contract: each verdict's text is the report of the refinement.
use Rattle.report_text.proofs.Refinements.{accepted-network, accepted_reports, refused_contradicts, contradiction_reports}
use Rattle.report_text.proofs.Stated.put_refined.Goals as goal

pub put_network-requires : goal.put_network-requires
put_network-requires c = (accepted-network c.args.self.now c.refine-verdict.ensures c.in-Ok.is c.network-network.ensures).ending

pub put_contradiction-requires : goal.put_contradiction-requires
put_contradiction-requires c = refused_contradicts c.args.self.now c.refine-verdict.ensures c.in-Err.is

pub returns-in-Ok : goal.returns-in-Ok
returns-in-Ok c =
    accepted_reports c.args.self.now
    (accepted-network c.args.self.now c.refine-verdict.ensures c.in-Ok.is c.network-network.ensures) c.put_network.ensures

pub returns-in-Err : goal.returns-in-Err
returns-in-Err c = contradiction_reports c.args.self.now c.refine-verdict.ensures c.in-Err.is c.put_contradiction.ensures
