-- The documents' rule for the class of a pair, line by line.
use Rattle.std.specs.Prelude.{◌≡◌, ℕ, ◌≤◌, ◌<◌}
use Rattle.report_text.specs.Class.{observed, determined, enhanced, as_stated, nothing_known}

-- the rule, line by line, with s the size after the arc rule and f the refined size
pub data Rule (s f : ℕ) : ℕ → Type 0 where
  is-observed : s ≡ 1 → Rule s f observed
  is-determined : f ≡ 1 → 1 < s → Rule s f determined
  is-enhanced : f < s → 1 < f → Rule s f enhanced
  is_as_stated : s ≡ f → 1 < f → f < 8 → Rule s f as_stated
  is-unknown : s ≡ 8 → f ≡ 8 → Rule s f nothing_known

-- the sizes that occur: no set is empty, none is larger than before, and there are eight relations
pub record Occur (s f : ℕ) : Type 0 where
  pub some : 1 ≤ f
  pub within : f ≤ s
  pub most : s ≤ 8
