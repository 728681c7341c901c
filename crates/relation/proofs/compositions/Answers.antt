-- `relation::compositions` meets its contract: the constant is the list, by one test over all its entries.
use mathlib.Core.Path.{refl}
use Rattle.lists.specs.Tabled.{tabled}
use Rattle.relation.specs.Sets.{has, union_of, over}
use Rattle.relation.specs.Composition.{rows, table}
use Rattle.relation.specs.Lent.{listed}
use Rattle.relation.proofs.compositions.Goals as goal

pub returns : goal.returns
unfolding listed tabled over union_of has table rows
returns c = refl
