-- What a round keeps beside the planes: for each live region, what every relation gives with the sets of its row.
use Rattle.std.specs.Prelude.{ℕ, ◌*◌, ◌/◌, ◌%◌, List, get_or}
use Rattle.std.proofs.Math.Seq.{paste}
use Rattle.lanes.specs.Lists.{list_of}
use Rattle.lanes.specs.Words.{wired}
use Rattle.planes.specs.Planes.{block_of}
use Rattle.lanes.specs.Places.{visited}

-- each relation composed with the sets of eight words: the words of relation p from 8 * p on
unfoldable pub wired_all : List ℕ → List ℕ
wired_all b = list_of 64 (λ w. get_or (wired (w / 8) b) (w % 8) 0)

-- the area onward once each live region's row is in it, 64 words to a region
unfoldable pub onward_of : ℕ → List ℕ → List ℕ → List ℕ
onward_of live old onward = visited (λ area k. paste area (64 * k) (wired_all (block_of old k)) 64) onward live
