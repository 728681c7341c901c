-- What an accepted scene says fits the areas: every cell is a byte, and every identifier has 32 bits.
use mathlib.Core.Path.{◌≡◌, subst}
use mathlib.Core.List.{List, [], ◌∷◌, ◌++◌}
use Prim.Native.Nat.{ℕ, zero, suc, ◌+◌, ◌<◌}
use native.Mathlib.Omega.{arith}
use lib.ListN.{get_or}
use Rattle.relation.proofs.Within.{within-byte}
use Rattle.lists.specs.BigEndian.{AllBytes}
use Rattle.lists.proofs.BigEndianLaws.{number_small}
use Rattle.filing.specs.Said.{Said, Statement}
use Rattle.filing.specs.Stated.{stated_cell}
use Rattle.filing.proofs.StatedLaws.{stated-within}
use Rattle.scene.specs.Reading.{accepted_said, read_scene}
use Rattle.scene.specs.Reads.{starting_cell}
use Rattle.scene.specs.Reached.{Reached, start, region, statement}
use Rattle.scene.proofs.Reasons.{declares_why}
use Rattle.scene.proofs.Endings.{accepted-records, finished}

-- a cell is a byte, whatever was stated
pub stated-byte : (l : List Statement) (i j : ℕ) → stated_cell starting_cell l i j < 256
stated-byte l i j = within-byte (stated-within starting_cell l i j) (omega arith)

-- an identifier has 32 bits, where the scene is made of bytes
pub one_more_small : (l : List ℕ) (name : ℕ) → ((k : ℕ) → get_or l k 0 < 4294967296) → name < 4294967296
    → (k : ℕ) → get_or (l ++ (name ∷ [])) k 0 < 4294967296
one_more_small [] name h n zero = n
one_more_small [] name h n (suc k) = omega arith
one_more_small (x ∷ l) name h n zero = h 0
one_more_small (x ∷ l) name h n (suc k) = one_more_small l name (λ i. h (suc i)) n k

reached_small : {scene : List ℕ} {at : ℕ} {said : Said} → AllBytes scene → Reached scene at said
    → (k : ℕ) → get_or said.identifiers k 0 < 4294967296
reached_small b start k = omega arith
reached_small {scene} b (region {at} {said} name r e) k =
    let d = declares_why scene said at e in
    one_more_small said.identifiers name (λ i. reached_small b r i)
    (subst (λ (x : ℕ). x < 4294967296) d.region.name_is (number_small scene (at + 1) b))
    k
reached_small b (statement p q set r e) k = reached_small b r k

pub accepted-small : (scene : List ℕ) {said : Said} → AllBytes scene → read_scene scene ≡ accepted_said said
    → (k : ℕ) → get_or said.identifiers k 0 < 4294967296
accepted-small scene b e = reached_small b (finished scene (accepted-records scene e)).reached
