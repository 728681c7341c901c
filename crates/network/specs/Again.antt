-- What refining a network again comes to.
use Rattle.std.specs.Prelude.{◌≡◌, List, ℕ}
use Rattle.network.specs.declared.Area.TheVariants.{Second}
use Rattle.network.specs.Verdict.{Verdict, acceptance}

-- accepted with no round that changed something, and the same bytes handed back
pub record Again (n : ℕ) (network : List ℕ) (verdict : Verdict) (part : List ℕ) : Type 0 where
  pub accepts : verdict ≡ acceptance n 0 Second
  pub same : part ≡ network
