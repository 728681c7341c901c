-- No second answer meets the contract of `refine`, `prepare`, `run`, `network`, `of_verdict`, `of_start` or of an area and its number.
use mathlib.Core.Path.{◌≡◌, sym, ◌∙◌}
use contract.Lifetimes.{Lfts}
use denote.Triple.Clauses.{AtExit}
use borrow.Fn.Kinds.{Dens, res_t, ended_of}
use Rattle.answer.proofs.Unique.{told_one}
use Rattle.network.proofs.refine.Kinds as refining
use Rattle.network.proofs.refine.Reads.{Post as Refines}
use Rattle.network.proofs.prepare.Kinds as preparing
use Rattle.network.proofs.prepare.Reads.{Post as Prepares}
use Rattle.network.proofs.run.Kinds as running
use Rattle.network.proofs.run.Reads.{Post as Runs}
use Rattle.network.proofs.network.Kinds as handing
use Rattle.network.proofs.network.Reads.{Post as Hands}
use Rattle.network.proofs.numbers.of_verdict.Kinds as telling
use Rattle.network.proofs.numbers.of_verdict.Reads.{Post as Tells}
use Rattle.network.proofs.numbers.of_start.Kinds as telling-start
use Rattle.network.proofs.numbers.of_start.Reads.{Post as TellsStart}
use Rattle.network.proofs.numbers.UsizeFromArea.from.Kinds as numbering
use Rattle.network.proofs.numbers.UsizeFromArea.from.Reads.{Post as Numbers}
use Rattle.network.proofs.numbers.AreaTryFromUsize.try_from.Kinds as naming
use Rattle.network.proofs.numbers.AreaTryFromUsize.try_from.Reads.{Post as Names}
use Rattle.network.proofs.Verdicts.{one_verdict, one_verdict_from, one_start}

-- the verdict, and what is left in the first and in the second area
pub refine_unique : (κs : Lfts 3) (a : Dens κs refining.ps) (r r' : (res_t refining.r κs).Denot)
    (s s' : AtExit (ended_of 3 refining.ps refining.r) κs) → Refines κs a r s → Refines κs a r' s'
    → (r ≡ r') × (s.1.1.0.now ≡ s'.1.1.0.now) × (s.1.1.1.0.now ≡ s'.1.1.1.0.now)
refine_unique κs a r r' s s' p q = (
  one_verdict _ _ r r' p.names q.names p.answer q.answer,
  p.in_first ∙ sym q.in_first,
  p.in_second ∙ sym q.in_second,
)

-- what it came to, and what is left in both areas
pub prepare_unique : (κs : Lfts 3) (a : Dens κs preparing.ps) (r r' : (res_t preparing.r κs).Denot)
    (s s' : AtExit (ended_of 3 preparing.ps preparing.r) κs) → Prepares κs a r s → Prepares κs a r' s'
    → (r ≡ r') × (s.1.1.0.now ≡ s'.1.1.0.now) × (s.1.1.1.0.now ≡ s'.1.1.1.0.now)
prepare_unique κs a r r' s s' p q =
    (one_start _ r r' p.answer q.answer, p.in_first ∙ sym q.in_first, p.in_second ∙ sym q.in_second)

-- the verdict, and what is left in both areas
pub run_unique : (κs : Lfts 2) (a : Dens κs running.ps) (r r' : (res_t running.r κs).Denot)
    (s s' : AtExit (ended_of 2 running.ps running.r) κs) → Runs κs a r s → Runs κs a r' s'
    → (r ≡ r') × (s.1.1.1.0.now ≡ s'.1.1.1.0.now) × (s.1.1.1.1.0.now ≡ s'.1.1.1.1.0.now)
run_unique κs a r r' s s' p q = (
  one_verdict_from _ _ _ r r' p.names q.names p.answer q.answer,
  p.in_first ∙ sym q.in_first,
  p.in_second ∙ sym q.in_second,
)

-- the bytes, and where they begin
pub network_unique : (κs : Lfts 1) (a : Dens κs handing.ps) (r r' : (res_t handing.r κs).Denot)
    (s s' : AtExit (ended_of 1 handing.ps handing.r) κs) → Hands κs a r s → Hands κs a r' s'
    → (r.now ≡ r'.now) × (r.ref_ptr ≡ r'.ref_ptr)
network_unique κs a r r' s s' p q = (p.bytes ∙ sym q.bytes, p.itself ∙ sym q.itself)

-- the five numbers
pub of_verdict_unique : (κs : Lfts 0) (a : Dens κs telling.ps) (r r' : (res_t telling.r κs).Denot)
    (s s' : AtExit (ended_of 0 telling.ps telling.r) κs) → Tells κs a r s → Tells κs a r' s' → r ≡ r'
of_verdict_unique κs a r r' s s' p q = told_one r r' _ p q

pub of_start_unique : (κs : Lfts 0) (a : Dens κs telling-start.ps) (r r' : (res_t telling-start.r κs).Denot)
    (s s' : AtExit (ended_of 0 telling-start.ps telling-start.r) κs) → TellsStart κs a r s → TellsStart κs a r' s' → r ≡ r'
of_start_unique κs a r r' s s' p q = told_one r r' _ p q

-- the number of an area, and the area with a number
pub area_number_unique : (κs : Lfts 0) (a : Dens κs numbering.ps) (r r' : (res_t numbering.r κs).Denot)
    (s s' : AtExit (ended_of 0 numbering.ps numbering.r) κs) → Numbers κs a r s → Numbers κs a r' s' → r ≡ r'
area_number_unique κs a r r' s s' p q = p ∙ sym q

pub area_numbered_unique : (κs : Lfts 0) (a : Dens κs naming.ps) (r r' : (res_t naming.r κs).Denot)
    (s s' : AtExit (ended_of 0 naming.ps naming.r) κs) → Names κs a r s → Names κs a r' s' → r ≡ r'
area_numbered_unique κs a r r' s s' p q = p ∙ sym q
