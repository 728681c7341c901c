-- The class of a pair, from the sizes of its set after the arc rule and of its refined set.
use Rattle.std.specs.Prelude.{ℕ, cond, eqb, ltb}
use Rattle.report_text.specs.declared.Class.{Class}
use Rattle.report_text.specs.declared.Class.TheVariants.{Observed, Determined, Enhanced, AsStated, Unknown}

-- the letters O, D, E, S and U as bytes: one relation was observed; one is determined; the set is enhanced; it is as stated;
-- nothing is known
abbrev pub observed : ℕ
observed = 79

abbrev pub determined : ℕ
determined = 68

abbrev pub enhanced : ℕ
enhanced = 69

abbrev pub as_stated : ℕ
as_stated = 83

abbrev pub nothing_known : ℕ
nothing_known = 85

-- size s after the arc rule, refined size f: O if s = 1; D if f = 1 < s; E if s > f > 1; S if s = f and 1 < f < 8; U if both are 8
unfoldable pub class_of : ℕ → ℕ → ℕ
class_of s f =
    cond (eqb s 1) observed (cond (eqb f 1) determined (cond (ltb f s) enhanced (cond (ltb f 8) as_stated nothing_known)))

-- the letter of a class
abbrev pub letter_of : Class → ℕ
letter_of Observed = observed
letter_of Determined = determined
letter_of Enhanced = enhanced
letter_of AsStated = as_stated
letter_of Unknown = nothing_known
