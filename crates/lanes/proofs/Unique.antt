-- No second answer meets a public call's contract. No call but `next` writes what it is lent, so its answer is all that it leaves.
use Prim.Native.Nat.{ℕ}
use mathlib.Core.Path.{◌≡◌, refl, sym, ◌∙◌}
use mathlib.Core.List.{List, [], ◌∷◌}
use contract.Lifetimes.{Lfts}
use borrow.Fn.Kinds.{Dens, res_t, ended_of}
use denote.Triple.Clauses.{AtExit}
use Rattle.std.proofs.Common.{Option, None, Some}
use Rattle.std.specs.Prelude.{MatchOption}
use Rattle.relation.proofs.Unique.{OneAnswer}
use Rattle.lanes.proofs.along.composed.Kinds as composing
use Rattle.lanes.proofs.along.composed.Reads.{Post as Composes}
use Rattle.lanes.proofs.bits.lowest.Kinds as finding
use Rattle.lanes.proofs.bits.lowest.Reads.{Post as Finds}
use Rattle.lanes.proofs.bits.without_lowest.Kinds as taking
use Rattle.lanes.proofs.bits.without_lowest.Reads.{Post as Takes}
use Rattle.lanes.proofs.bits.places_of.Kinds as going
use Rattle.lanes.proofs.bits.places_of.Reads.{Post as Goes}
use Rattle.lanes.proofs.bits.PlacesIterator.next.Kinds as stepping
use Rattle.lanes.proofs.bits.PlacesIterator.next.Reads.{Post as Steps}
use Rattle.lanes.specs.Going.{places_left}

pub composed_unique : OneAnswer 0 composing.ps composing.r Composes
composed_unique κs a x y s t p q = p ∙ sym q

pub lowest_unique : OneAnswer 0 finding.ps finding.r Finds
lowest_unique κs a x y s t p q = p ∙ sym q

pub without_lowest_unique : OneAnswer 0 taking.ps taking.r Takes
without_lowest_unique κs a x y s t p q = p ∙ sym q

-- the places that come
pub places_of_unique : (κs : Lfts 0) (a : Dens κs going.ps) (r r' : (res_t going.r κs).Denot)
    (s s' : AtExit (ended_of 0 going.ps going.r) κs) → Goes κs a r s → Goes κs a r' s' → places_left r ≡ places_left r'
places_of_unique κs a r r' s s' p q = p ∙ sym q

one_next : (all left left' : List ℕ) (r r' : Option ℕ) → MatchOption r ((all ≡ []) × (left ≡ [])) (λ k. all ≡ k ∷ left)
    → MatchOption r' ((all ≡ []) × (left' ≡ [])) (λ k. all ≡ k ∷ left') → (r ≡ r') × (left ≡ left')
one_next all left left' None None p q = (refl, p.1 ∙ sym q.1)
one_next all left left' None (Some k) p q = let none = p.0 in cc
one_next all left left' (Some k) None p q = let none = q.0 in cc
one_next all left left' (Some k) (Some j) p q = (cc, cc)

-- the place, and the places that are left
pub next_unique : (κs : Lfts 1) (a : Dens κs stepping.ps) (r r' : (res_t stepping.r κs).Denot)
    (s s' : AtExit (ended_of 1 stepping.ps stepping.r) κs) → Steps κs a r s → Steps κs a r' s'
    → (r ≡ r') × (places_left s.0.now ≡ places_left s'.0.now)
next_unique κs a r r' s s' p q = one_next (places_left a.0.now) (places_left s.0.now) (places_left s'.0.now) r r' p.0 q.0
