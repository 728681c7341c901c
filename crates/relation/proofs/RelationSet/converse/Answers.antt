-- `relation::RelationSet::converse` meets its contract: a test at each of the 256 sets, which antt computes.
use Prim.Native.Nat.{ℕ, ◌+◌, ◌*◌, ◌/◌, ◌%◌}
use mathlib.Core.Bool.{Bool}
use lib.Dec.{T, eqb, eqb→eq}
use Rattle.relation.specs.Sets.{has, union_of, over}
use Rattle.relation.specs.Converse.{flip, converse}
use Rattle.relation.proofs.Tests.{all, all_at}
use Rattle.std.proofs.Common.{rules}
use Rattle.relation.proofs.RelationSet.converse.Goals as goal

-- the digits as the code moves them
abbrev moved : ℕ → ℕ
moved s = s / 128 * 128 + s / 8 % 4 * 32 + s / 32 % 4 * 8 + s % 8

right : ℕ → Bool
right s = eqb (moved s) (converse s)

tested : T (all 256 right)
unfolding all right converse over union_of has flip
tested = tt

pub returns : goal.returns
unfolding right
returns c =
    eqb→eq (moved c.args.self.0) (converse c.args.self.0)
    (all_at 256 right tested c.args.self.0 (search rules))
