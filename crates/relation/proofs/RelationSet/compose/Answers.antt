-- `relation::RelationSet::compose` meets its contract: the entries lent are the listed ones.
use Prim.Native.Nat.{ℕ}
use native.Mathlib.Omega.{arith}
use mathlib.Core.Path.{ap, ◌∙◌}
use mathlib.Core.List.{List}
use Rattle.relation.specs.Lent.{compose_by}
use Rattle.relation.proofs.CompositionLaws.{compose-listed}
use Rattle.relation.proofs.RelationSet.compose.Goals as goal

pub returns : goal.returns
returns c =
    let args = c.args in
    c.compose_by.ensures
    ∙ ap (λ (l : List ℕ). compose_by l args.self.0 args.other.0) c.compositions-entries.ensures
    ∙ compose-listed args.self.0 args.other.0 (omega arith)
