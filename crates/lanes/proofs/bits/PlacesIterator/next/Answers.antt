-- `Places::next` meets its contract: the lowest place comes first, and those of the word without it are left.
use Rattle.std.proofs.Common.{rules}
use Rattle.lanes.proofs.LowestBit.{no_places, places_next, fewer_places}
use Rattle.lanes.proofs.bits.PlacesIterator.next.Goals as goal

pub returns-in_err-place-clause-steps : goal.returns-in_err-place-clause-steps
returns-in_err-place-clause-steps c =
    let none = no_places _ (search rules) c.in_err-place.ensures in
    let answer = c.from_residual.ensures in search rules

pub returns-clause-steps : goal.returns-clause-steps
returns-clause-steps c = places_next _ _ _ (search rules) c.in_ok-place.ensures c.without_lowest-self.ensures

pub returns-clause-goes : goal.returns-clause-goes
returns-clause-goes c =
    let fewer = fewer_places _ _ _ (search rules) c.in_ok-place.ensures c.without_lowest-self.ensures in search rules
