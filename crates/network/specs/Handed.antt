-- The part of the areas that `network` hands back for a verdict.
use Rattle.std.specs.Prelude.{◌≡◌, ℕ, ◌*◌, Bool, cond, ◌&&◌, List, [], length, take, leb, Ok, Err}
use Rattle.matrix.specs.Square.{in_range}
use Rattle.network.specs.Verdict.{Verdict}
use Rattle.network.specs.Areas.{chosen}

-- n is from 1 to 64 and both areas have n² bytes
abbrev pub served : ℕ → List ℕ → List ℕ → Bool
served n first second = in_range n && (leb (n * n) (length first) && leb (n * n) (length second))

-- the first n² bytes of the area named; nothing for a refusal, or where the areas do not serve
abbrev pub handed : List ℕ → List ℕ → Verdict → List ℕ
handed first second (Ok outcome) =
    let n : ℕ = outcome.regions in cond (served n first second) (take (n * n) (chosen outcome.area first second)) []
handed first second (Err unrefined) = []

-- where that part begins: at the beginning of the area named, and of the first where nothing is handed back
abbrev pub begins : {X : Type 0} → X → X → List ℕ → List ℕ → Verdict → X
begins x y first second (Ok outcome) = cond (served outcome.regions first second) (chosen outcome.area x y) x
begins x y first second (Err unrefined) = x

-- what `network` promises of the part: its bytes, and that it is the area itself
pub record Handed {X : Type 0} (first second : List ℕ) (atFirst atSecond : X) (verdict : Verdict) (part : List ℕ) (atPart : X) : Type 0 where
  pub bytes : part ≡ handed first second verdict
  pub itself : atPart ≡ begins atFirst atSecond first second verdict
