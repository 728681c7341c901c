-- No second answer meets the contract of `lookup` or of `identifier_at`.
use mathlib.Core.Path.{◌≡◌, sym, ap, ◌∙◌}
use contract.Lifetimes.{Lfts}
use borrow.Fn.Kinds.{Dens, res_t, ended_of}
use denote.Triple.Clauses.{AtExit}
use Rattle.region.proofs.lookup.Kinds as kinds
use Rattle.region.proofs.lookup.Reads.{Post}
use Rattle.region.specs.Lookup.{identifier}
use Rattle.region.proofs.identifier_at.Kinds as back
use Rattle.region.proofs.identifier_at.Reads as identifier-at

pub lookup_unique : (κs : Lfts 1) (a : Dens κs kinds.ps) (r r' : (res_t kinds.r κs).Denot)
    (s s' : AtExit (ended_of 1 kinds.ps kinds.r) κs)
    → Post κs a r s → Post κs a r' s' → r ≡ r'
lookup_unique κs a r r' s s' p q = p ∙ sym q

pub identifier_at_unique : (κs : Lfts 1) (a : Dens κs back.ps) (r r' : (res_t back.r κs).Denot)
    (s s' : AtExit (ended_of 1 back.ps back.r) κs)
    → identifier-at.Post κs a r s → identifier-at.Post κs a r' s' → r ≡ r'
identifier_at_unique κs a r r' s s' p q = ap identifier (p ∙ sym q)
