-- `round::words::members` meets its contract.
use mathlib.Core.Path.{◌≡◌, ◌∙◌}
use lib.Bits.{bit_or}
use Rattle.std.specs.List.{fold}
use Rattle.std.proofs.Common.{rules}
use Rattle.round.proofs.Lanes.{members_fold}
use Rattle.round.proofs.words.members.Goals as goal

pub returns : goal.returns
returns c = let folded : c.fold.result ≡ fold bit_or 0 c.args.w = search rules in folded ∙ members_fold c.args.w (search rules)
