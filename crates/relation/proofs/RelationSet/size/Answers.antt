-- `relation::RelationSet::size` meets its contract: a test at each of the 256 sets, which antt computes.
use Prim.Native.Nat.{ℕ}
use mathlib.Core.Bool.{Bool}
use lib.Dec.{T, eqb, eqb→eq}
use lib.Count.{ones, ones_in}
use Rattle.relation.specs.Sets.{has, members_below, size}
use Rattle.relation.proofs.Tests.{all, all_at}
use Rattle.std.proofs.Common.{rules}
use Rattle.relation.proofs.RelationSet.size.Goals as goal

counted : ℕ → Bool
counted s = eqb (ones s) (size s)

tested : T (all 256 counted)
unfolding all counted ones ones_in size members_below has
tested = tt

pub returns : goal.returns
unfolding counted
returns c =
    eqb→eq (ones c.args.self.0) (size c.args.self.0)
    (all_at 256 counted tested c.args.self.0 (search rules))
