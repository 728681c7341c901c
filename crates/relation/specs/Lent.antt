-- The compositions of every set with every single relation, as one list that is made once and lent to whoever composes many sets.
use Rattle.std.specs.Prelude.{ℕ, ◌+◌, ◌*◌, ◌/◌, ◌%◌, List, get_or}
use Rattle.lists.specs.Tabled.{tabled}
use Rattle.relation.specs.Sets.{over}
use Rattle.relation.specs.Composition.{table}

-- the entry at a place: the set place / 8 composed with relation place % 8
abbrev pub entry_at : ℕ → ℕ
entry_at place = over (place / 8) (λ p. table p (place % 8))

-- 256 sets by 8 relations: entry 8 * a + q is the set a composed with relation q
unfoldable pub listed : List ℕ
listed = tabled 2048 0 entry_at

-- two sets composed by whatever entries are lent
unfoldable pub compose_by : List ℕ → ℕ → ℕ → ℕ
compose_by entries a b = over b (λ q. get_or entries (8 * a + q) 0)
