-- What a call leaves in a lent area that it fills only in front.
use Rattle.std.specs.Prelude.{ℕ, List, ◌++◌, take, drop}

-- the first `count` entries of `filled`, and after them the area as it was
unfoldable pub laid : ℕ → List ℕ → List ℕ → List ℕ
laid count filled area = take count filled ++ drop count area
