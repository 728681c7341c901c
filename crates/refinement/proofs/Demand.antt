-- Demand 3 about the whole call: it accepts exactly when there is a network, and what it accepts is the largest.
use mathlib.Core.Path.{◌≡◌, refl, subst}
use mathlib.Core.List.{List}
use Prim.Native.Nat.{ℕ}
use Rattle.answer.specs.Answer.{Answer}
use Rattle.answer.specs.Ending.{Ending, accepted, refused, Accepted}
use Rattle.relation.proofs.Within.{within_antisym}
use Rattle.matrix.proofs.CellLaws.{ext_cell}
use Rattle.refinement.specs.Refine.{refined}
use Rattle.refinement.specs.InRange.{InRange}
use Rattle.refinement.specs.Network.{Network, Largest, Exists}
use Rattle.refinement.specs.Ends.{NamesRegions, Ends}
use Rattle.refinement.proofs.Limits.{refined_in_range}
use Rattle.refinement.proofs.Ending.{refine_ends}

-- there is only one largest network
pub one_largest : {n : ℕ} {m v w : List ℕ} → Largest n m v → Largest n m w → v ≡ w
one_largest {n} {m} {v} {w} p q =
    ext_cell n v w p.network.size q.network.size
    (λ i j hi hj. within_antisym ((q.contains v p.network).cells i j hi hj) ((p.contains w q.network).cells i j hi hj))

-- matrices that allow the same networks have the same largest
pub largest-same : {n : ℕ} {m w : List ℕ} (a : List ℕ) → ((v : List ℕ) → Network n m v → Network n a v)
    → ((v : List ℕ) → Network n a v → Network n m v) → Largest n m w → Largest n a w
largest-same {n} {m} {w} a f g L = record { network = f w L.network; contains = λ v N. L.contains v (g v N) }

finds : (n : ℕ) (m v : List ℕ) → Network n m v → (o : Ending (List ℕ)) → Ends n m o → Accepted o
finds n m v N (accepted w count) E = record { given = w; count = count; is = refl }
finds n m v N (refused numbers) E = absurd (E.none v N)

module _ (n : ℕ) (m : List ℕ) (first second : ℕ) (range : InRange n m first second) where
  pub refined_ends : Ends n m (refined n m first second)
  refined_ends = rw (refined_in_range range) (refine_ends n m)

  -- what is accepted is the largest network
  pub accepted-largest : (w : List ℕ) (count : ℕ) → refined n m first second ≡ accepted w count → Largest n m w
  accepted-largest w count e = (subst (Ends n m) e refined_ends).largest

  -- where there is a network, it is accepted
  pub accepted_if : (v : List ℕ) → Network n m v → Accepted (refined n m first second)
  accepted_if v N = finds n m v N (refined n m first second) refined_ends

  -- accepted exactly when there is a network
  pub accepted_exactly : (Accepted (refined n m first second) → Exists n m) × (Exists n m → Accepted (refined n m first second))
  accepted_exactly = (
    λ a. record { network = a.given; is = (accepted-largest a.given a.count a.is).network },
    λ e. accepted_if e.network e.is,
  )

  -- a refusal names the regions as the document says
  pub refused_names : (numbers : Answer) → refined n m first second ≡ refused numbers → NamesRegions n numbers
  refused_names numbers e = (subst (Ends n m) e refined_ends).names
