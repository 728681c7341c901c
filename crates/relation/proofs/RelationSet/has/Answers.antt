-- `relation::RelationSet::has` meets its contract: a byte has no member from 8 on.
use mathlib.Core.Path.{sym}
use borrow.Author.Tests.{le-ltb}
use Rattle.relation.specs.Sets.{has}
use Rattle.relation.proofs.Member.{none_beyond}
use Rattle.std.proofs.Common.{rules}
use Rattle.relation.proofs.RelationSet.has.Goals as goal

pub returns-then-relation-lt8 : goal.returns-then-relation-lt8
unfolding has
returns-then-relation-lt8 c = search rules

pub returns-else-relation-lt8 : goal.returns-else-relation-lt8
returns-else-relation-lt8 c =
    rw (le-ltb c.args.relation 8 c.if-relation-lt8.false)
    (sym (none_beyond c.args.self.0 c.args.relation (search rules) c.if-relation-lt8.false))
