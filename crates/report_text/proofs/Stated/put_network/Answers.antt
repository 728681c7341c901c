-- `report_text::Stated::put_network` meets its contract: prepared, the first area has the arc stage in front, and the lines go by it.
use native.Mathlib.Omega.{arith}
use Rattle.report_text.proofs.Refinements.{network-square, arcs-square, network-adds}
use Rattle.report_text.proofs.Stated.put_network.Goals as goal

pub invariant_of-pairs : goal.invariant_of-pairs
invariant_of-pairs c = record {
  arcs_square = omega (arith, arcs-square c.args.self.now c.requires c.prepare.ensures);
  network_square = network-square c.args.self.now c.requires;
}

pub returns : goal.returns
returns c = network-adds c.args.self.now c.requires c.prepare.ensures c.put_accepted.ensures c.put_all.ensures
