-- Lines of text as bytes.
use Rattle.std.specs.Prelude.{ℕ, List, [], ◌∷◌, ◌++◌}

-- the fields with single spaces between them, and a line feed
unfoldable pub line : List (List ℕ) → List ℕ
line [] = 10 ∷ []
line (field ∷ []) = field ++ (10 ∷ [])
line (field ∷ next ∷ rest) = field ++ (32 ∷ line (next ∷ rest))
