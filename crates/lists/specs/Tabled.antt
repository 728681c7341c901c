-- A list by a rule for its entries.
use Rattle.std.specs.Prelude.{ℕ, zero, suc, List, [], ◌∷◌}

-- f start, f (start + 1), .. : `count` of them
unfoldable pub tabled : ℕ → ℕ → (ℕ → ℕ) → List ℕ
tabled zero start f = []
tabled (suc count) start f = f start ∷ tabled count (suc start) f
