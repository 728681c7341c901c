-- Eight words, one a relation: 64 sets side by side. Relation r is in the set of lane x where bit x of word r is 1.
use Rattle.std.specs.Prelude.{ℕ, cond, List, get_or}
use Rattle.relation.specs.Sets.{has, empty, union_of}
use Rattle.relation.specs.Composition.{table}
use Rattle.lanes.specs.Lists.{list_of, mask_of}

-- the set of lane x
unfoldable pub set_at : List ℕ → ℕ → ℕ
set_at words x = mask_of 8 (λ r. has (get_or words r 0) x)

-- relation p composed with the set of each lane: word r is the union of the words q with r in the composition of p with q
unfoldable pub wired : ℕ → List ℕ → List ℕ
wired p words = list_of 8 (λ r. union_of 8 (λ q. cond (has (table p q) r) (get_or words q 0) empty))
