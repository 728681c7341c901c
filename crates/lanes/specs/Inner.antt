-- What only inner functions' contracts cite: eight words wired by the row of one relation.
use Rattle.std.specs.Prelude.{ℕ, cond, List, get_or}
use Rattle.relation.specs.Sets.{has, empty, union_of}
use Rattle.lanes.specs.Lists.{list_of}

-- word r is the union of the words q for which entry q of the row has r
unfoldable pub wired_by : List ℕ → List ℕ → List ℕ
wired_by row words = list_of 8 (λ r. union_of 8 (λ q. cond (has (get_or row q 0) r) (get_or words q 0) empty))
