-- What is handed back, from the tests that a verdict and the areas pass.
use mathlib.Core.Path.{◌≡◌, sym, ap}
use mathlib.Core.Bool.{Bool, true, false, cond}
use mathlib.Core.List.{List, []}
use Prim.Native.Nat.{ℕ, ◌*◌}
use lib.ListN.{take}
use Rattle.network.specs.declared.Area.{Area}
use Rattle.network.specs.Verdict.{Verdict, acceptance}
use Rattle.network.specs.Areas.{chosen}
use Rattle.network.specs.Handed.{Handed, served}

module _ {X : Type 0} (first second : List ℕ) (atFirst atSecond : X) (verdict : Verdict) (n rounds : ℕ) (area : Area)
    (e : verdict ≡ acceptance n rounds area) where
  by_served : (serves : Bool) → served n first second ≡ serves
      → Handed first second atFirst atSecond verdict (cond serves (take (n * n) (chosen area first second)) [])
      (cond serves (chosen area atFirst atSecond) atFirst)
  by_served serves s =
      rw e
      (record {
        bytes = ap (λ (b : Bool). cond b (take (n * n) (chosen area first second)) []) (sym s);
        itself = ap (λ (b : Bool). cond b (chosen area atFirst atSecond) atFirst) (sym s);
      })

  -- areas that do not serve: an empty part of the first
  pub hands_nothing : served n first second ≡ false → Handed first second atFirst atSecond verdict [] atFirst
  hands_nothing = by_served false

  -- areas that serve: the front of the one named
  pub hands_area : (named : Area) → area ≡ named → served n first second ≡ true
      → Handed first second atFirst atSecond verdict (take (n * n) (chosen named first second)) (chosen named atFirst atSecond)
  hands_area named a s = rw (← a) (by_served true s)
