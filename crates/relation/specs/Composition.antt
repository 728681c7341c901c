-- Composition: what the first region can be to the third, from what it is to the second and the second to the third.
use Rattle.std.specs.Prelude.{ℕ, List, [], ◌∷◌, get_or}
use Rattle.relation.specs.Sets.{over}

-- Table 1 of document 004 as bytes: row first, columns in bit order
unfoldable pub rows : List (List ℕ)
rows =
    (255 ∷ 155 ∷ 1 ∷ 155 ∷ 155 ∷ 1 ∷ 1 ∷ 155 ∷ [])
    ∷ (227 ∷ 215 ∷ 2 ∷ 152 ∷ 154 ∷ 1 ∷ 3 ∷ 155 ∷ [])
    ∷ (1 ∷ 2 ∷ 4 ∷ 8 ∷ 16 ∷ 32 ∷ 64 ∷ 128 ∷ [])
    ∷ (1 ∷ 1 ∷ 8 ∷ 8 ∷ 8 ∷ 255 ∷ 155 ∷ 155 ∷ [])
    ∷ (1 ∷ 3 ∷ 16 ∷ 8 ∷ 24 ∷ 227 ∷ 215 ∷ 155 ∷ [])
    ∷ (227 ∷ 224 ∷ 32 ∷ 252 ∷ 224 ∷ 32 ∷ 32 ∷ 224 ∷ [])
    ∷ (227 ∷ 226 ∷ 64 ∷ 152 ∷ 212 ∷ 32 ∷ 96 ∷ 224 ∷ [])
    ∷ (227 ∷ 227 ∷ 128 ∷ 152 ∷ 152 ∷ 227 ∷ 227 ∷ 255 ∷ [])
    ∷ []

-- the composition of relation p with relation q
unfoldable pub table : ℕ → ℕ → ℕ
table p q = get_or (get_or rows p []) q 0

-- the composition of two sets: the union of the table's entries over all pairs of members
unfoldable pub compose : ℕ → ℕ → ℕ
compose a b = over a (λ p. over b (λ q. table p q))
