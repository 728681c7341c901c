-- `round::words::differing` meets its contract.
use mathlib.Core.Path.{ap, ◌∙◌}
use Rattle.std.proofs.Common.{rules}
use Rattle.lanes.proofs.Made.{from_fn_list}
use Rattle.round.specs.Inner.{lanes_with_member}
use Rattle.round.proofs.Lanes.{differ_members}
use Rattle.round.proofs.words.differing.Goals as goal

pub returns : goal.returns
returns c =
    c.members.ensures ∙ ap lanes_with_member (from_fn_list c.from_fn.ensures.items (λ i y q h k. search rules)) ∙ differ_members c.args.a c.args.b
