-- The converse of a relation, and of a set: what the second region is to the first.
use Rattle.std.specs.Prelude.{ℕ, [], ◌∷◌, get_or}
use Rattle.relation.specs.Relations.{disjoint, meet, equal, inside, covered_by, contains, covers, overlap}
use Rattle.relation.specs.Sets.{only, over}

-- inside and contains change places, covered_by and covers change places, the other four stay
unfoldable pub flip : ℕ → ℕ
flip r = get_or (disjoint ∷ meet ∷ equal ∷ contains ∷ covers ∷ inside ∷ covered_by ∷ overlap ∷ []) r 0

-- the set of the converses of the members
unfoldable pub converse : ℕ → ℕ
converse s = over s (λ r. only (flip r))
