-- `WorkAreas::give_both` meets its contract, by the area named.
use Rattle.network.proofs.Left.{first_square, second_square, shares}
use Rattle.network.proofs.leaving.WorkAreas.give_both.Goals as goal

pub returns-clause-left : goal.returns-clause-left
returns-clause-left c =
    let areas = c.args.self.now in
    shares _ _ _ _ c.requires.0 c.requires.1 (first_square areas) (second_square areas) c.named.ensures.bytes c.named-2.ensures.bytes c.give.ensures c.give-2.ensures
