-- `region::lookup` meets its contract: what the search through the first entries finds, as a place.
use Rattle.std.proofs.Common.{rules, ℕ, ap, ◌∙◌, take, position}
use Rattle.std.specs.Prelude.{◌==◌}
use Rattle.std.proofs.lemmas.List.{take_min}
use Rattle.std.proofs.lemmas.Iterator.{YieldsList-from_slice}
use Rattle.std.proofs.lemmas.Iterator.Search.{position_from_yields_List}
use Rattle.region.specs.Lookup.{lookup_of}
use Rattle.region.proofs.lookup.Goals as goal

pub returns : goal.returns
unfolding lookup_of
returns c =
    let all = c.args.identifiers.now in
    let test = λ (entry : ℕ). entry == c.args.wanted.0 in
    let first = YieldsList-from_slice _ c.iter.ensures.rest in
    let found = position_from_yields_List test _ _ _ c.position.ensures.ran first (λ x b q k. search rules) in
    let front = found ∙ ap (λ k. position test (take k all)) c.min.ensures ∙ ap (position test) (take_min c.args.count all) in
    rw (← front) (search (rules, c.map.ensures))
