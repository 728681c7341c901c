-- What a refinement or a run comes to, and what a preparation does.
use Rattle.std.specs.Prelude.{ℕ, Result, Ok}
use Rattle.network.specs.declared.Area.{Area}
use Rattle.network.specs.declared.Accepted.{Accepted}
use Rattle.network.specs.declared.Unrefined.{Unrefined}

abbrev pub Verdict : Type 0
Verdict = Result Accepted Unrefined

-- Ok where rounds can start
abbrev pub Start : Type 0
Start = Result Unit Unrefined

-- the number of regions, how many rounds changed something, and the area that the confirming round wrote
abbrev pub acceptance : ℕ → ℕ → Area → Verdict
acceptance regions rounds area = Ok (record { regions = regions; rounds = rounds; area = area })
