-- Going by the test of a `stop`.
use mathlib.Core.Path.{◌≡◌, refl}
use mathlib.Core.Bool.{Bool, true, false}
use Rattle.answer.specs.Ending.{Ending, stop}

module _ {X : Type 0} where
  -- what holds of the ending where the test passes, and of what follows where it does not, holds of both together
  pub by_stop : (P : Ending X → Type 0) (b : Bool) (ending : Ending X) (follows : Unit {0} → Ending X)
      → (b ≡ true → P ending) → (b ≡ false → P (follows tt)) → P (stop b ending follows)
  by_stop P true ending follows f g = f refl
  by_stop P false ending follows f g = g refl

  pub stop_ends : (b : Bool) (ending : Ending X) (follows : Unit {0} → Ending X) → b ≡ true → stop b ending follows ≡ ending
  stop_ends b ending follows e = rw e

  pub stop-follows : (b : Bool) (ending : Ending X) (follows : Unit {0} → Ending X) → b ≡ false → stop b ending follows ≡ follows tt
  stop-follows b ending follows e = rw e

  pub stop-same : (b : Bool) (ending : Ending X) (follows other : Unit {0} → Ending X) → (b ≡ false → follows tt ≡ other tt)
      → stop b ending follows ≡ stop b ending other
  stop-same true ending follows other f = refl
  stop-same false ending follows other f = f refl
