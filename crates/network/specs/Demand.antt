-- What demand 3 asks of the verdict, and of the part that is handed back for it.
use Rattle.std.specs.Prelude.{◌≡◌, List, ℕ}
use Rattle.refinement.specs.Network.{Largest, Exists}
use Rattle.network.specs.declared.Area.{Area}
use Rattle.network.specs.Verdict.{Verdict, acceptance}

-- the verdict is an acceptance
pub record Accepts (verdict : Verdict) : Type 0 where
  pub regions : ℕ
  pub rounds : ℕ
  pub area : Area
  pub is : verdict ≡ acceptance regions rounds area

-- of n regions with these cells
pub record Demand (n : ℕ) (cells : List ℕ) (verdict : Verdict) (part : List ℕ) : Type 0 where
  -- accepted exactly when there is a network within the stated sets
  pub network_if : Accepts verdict → Exists n cells
  pub accepted_if : Exists n cells → Accepts verdict
  -- the network handed back is one, and contains every other
  pub handed-largest : Accepts verdict → Largest n cells part
