-- `chachaqom::crossing::put_each` meets its contract: each number is put behind those before it.
use Rattle.chachaqom.proofs.Crossed.{crossed_none, crossed_room, crossed_more, crossed_all}
use Rattle.chachaqom.proofs.crossing.put_each.Goals as goal

pub loop-place-init : goal.loop-place-init
loop-place-init g c = crossed_none _ _ _ _ c.requires

pub put-requires : goal.put-requires
put-requires g c = crossed_room g.N.Crossing.bytes_of _ _ _ _ c.loop-place-test.true c.loop-place.invariant

pub loop-place-preserved : goal.loop-place-preserved
loop-place-preserved g c =
    crossed_more _ _ _ g.met.N.Crossing.wide _ _ _ _ c.loop-place-test.true c.index-numbers-place.is c.loop-place.invariant c.put.ensures

pub returns : goal.returns
returns g c = crossed_all _ _ _ _ _ c.loop-place-test.false c.loop-place.auto.place-end c.loop-place.invariant
