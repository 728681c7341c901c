-- No second answer meets the contract of a function on cells.
use mathlib.Core.Path.{◌≡◌, sym, ap, ◌∙◌}
use Prim.Native.Nat.{ℕ}
use contract.Lifetimes.{Lfts}
use borrow.Fn.Kinds.{Dens, res_t, ended_of}
use denote.Triple.Clauses.{AtExit}
use Rattle.matrix.proofs.fill.Kinds as filling
use Rattle.matrix.proofs.fill.Reads.{Post as Fills}
use Rattle.matrix.proofs.first_empty.Kinds as searching
use Rattle.matrix.proofs.first_empty.Reads.{Post as Finds}
use Rattle.matrix.proofs.in_range.Kinds as ranging
use Rattle.matrix.proofs.in_range.Reads.{Post as Ranges}
use Rattle.matrix.proofs.at.Kinds as reading
use Rattle.matrix.proofs.at.Reads.{Post as Stands}
use Rattle.matrix.proofs.narrow.Kinds as narrowing
use Rattle.matrix.proofs.narrow.Reads.{Post as Narrows}
use Rattle.matrix.proofs.first_change.Kinds as comparing
use Rattle.matrix.proofs.first_change.Reads.{Post as Differs}
use Rattle.relation.specs.declared.RelationSet.{RelationSet}

-- the set that a byte is
abbrev set_of : ℕ → RelationSet
set_of x = record { 0 = x }

-- what is left in the cells
pub fill_unique : (κs : Lfts 1) (a : Dens κs filling.ps) (r r' : (res_t filling.r κs).Denot)
    (s s' : AtExit (ended_of 1 filling.ps filling.r) κs) → Fills κs a r s → Fills κs a r' s' → s.0.now ≡ s'.0.now
fill_unique κs a r r' s s' p q = p ∙ sym q

pub first_empty_unique : (κs : Lfts 1) (a : Dens κs searching.ps) (r r' : (res_t searching.r κs).Denot)
    (s s' : AtExit (ended_of 1 searching.ps searching.r) κs) → Finds κs a r s → Finds κs a r' s' → r ≡ r'
first_empty_unique κs a r r' s s' p q = p ∙ sym q

pub in_range_unique : (κs : Lfts 0) (a : Dens κs ranging.ps) (r r' : (res_t ranging.r κs).Denot)
    (s s' : AtExit (ended_of 0 ranging.ps ranging.r) κs) → Ranges κs a r s → Ranges κs a r' s' → r ≡ r'
in_range_unique κs a r r' s s' p q = p ∙ sym q

pub at_unique : (κs : Lfts 1) (a : Dens κs reading.ps) (r r' : (res_t reading.r κs).Denot)
    (s s' : AtExit (ended_of 1 reading.ps reading.r) κs) → Stands κs a r s → Stands κs a r' s' → r ≡ r'
at_unique κs a r r' s s' p q = ap set_of (p ∙ sym q)

-- what is left in the cells
pub narrow_unique : (κs : Lfts 1) (a : Dens κs narrowing.ps) (r r' : (res_t narrowing.r κs).Denot)
    (s s' : AtExit (ended_of 1 narrowing.ps narrowing.r) κs) → Narrows κs a r s → Narrows κs a r' s'
    → s.1.0.now ≡ s'.1.0.now
narrow_unique κs a r r' s s' p q = p ∙ sym q

pub first_change_unique : (κs : Lfts 2) (a : Dens κs comparing.ps) (r r' : (res_t comparing.r κs).Denot)
    (s s' : AtExit (ended_of 2 comparing.ps comparing.r) κs) → Differs κs a r s → Differs κs a r' s' → r ≡ r'
first_change_unique κs a r r' s s' p q = p ∙ sym q
