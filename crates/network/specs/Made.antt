-- A run that was made: it is refused neither with 25 nor with 1 or 2, so it ends with 0, 23 or 24.
use Rattle.std.specs.Prelude.{◌≡◌, Err}
use Rattle.network.specs.declared.Unrefined.TheVariants.{Unprepared, OutOfRange, WrongLength}
use Rattle.network.specs.Verdict.{Verdict}

pub record Made (verdict : Verdict) : Type 0 where
  pub prepared : verdict ≡ Err Unprepared → ⊥
  pub in_range : verdict ≡ Err OutOfRange → ⊥
  pub long_enough : verdict ≡ Err WrongLength → ⊥
