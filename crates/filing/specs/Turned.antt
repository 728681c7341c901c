-- Statements made from the other side: "A is inside B" as "B contains A".
use Rattle.std.specs.Prelude.{List, [], ◌∷◌}
use Rattle.relation.specs.Converse.{converse}
use Rattle.filing.specs.Said.{Statement}

abbrev pub turned : Statement → Statement
turned s = record { from = s.to; to = s.from; set = converse s.set }

-- the same statements in the same order, any of them turned
pub data Turned : List Statement → List Statement → Type 0 where
  none : Turned [] []
  kept : {one other : List Statement} (s : Statement) → Turned one other → Turned (s ∷ one) (s ∷ other)
  turns : {one other : List Statement} (s : Statement) → Turned one other → Turned (s ∷ one) (turned s ∷ other)
