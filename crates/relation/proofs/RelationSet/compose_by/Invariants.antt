-- `relation::RelationSet::compose_by` meets its contract. The loop's invariant: the union over the members of other so far.
use Prim.Native.Nat.{ℕ, ◌+◌, ◌*◌}
use mathlib.Core.Path.{◌≡◌}
use mathlib.Core.List.{List}
use lib.ListN.{get_or}
use Rattle.relation.proofs.Over.{upto}
use Rattle.relation.proofs.RelationSet.compose_by.Given as goal

-- the row of the entries that begins at from
abbrev pub row : List ℕ → ℕ → ℕ → ℕ
row entries from q = get_or entries (from + q) 0

abbrev pub invariant-loop-relation : goal.invariant-loop-relation
invariant-loop-relation l = l.union ≡ upto l.other.0 (row l.entries (8 * l.fn.self.0)) l.relation
