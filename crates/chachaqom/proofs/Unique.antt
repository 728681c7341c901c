-- No second answer meets the contract of an export: neither another number nor another byte of any area.
use mathlib.Core.Path.{◌≡◌, sym, ◌∙◌}
use contract.Lifetimes.{Lfts}
use borrow.Fn.Kinds.{Dens, res_t, ended_of}
use denote.Triple.Clauses.{AtExit}
use Rattle.answer.proofs.Exporting.{one_answer}
use Rattle.chachaqom.proofs.refine.chachaqom_refine.Kinds as refine-kinds
use Rattle.chachaqom.proofs.refine.chachaqom_refine.Reads as refine-reads
use Rattle.chachaqom.proofs.prepare.chachaqom_prepare.Kinds as prepare-kinds
use Rattle.chachaqom.proofs.prepare.chachaqom_prepare.Reads as prepare-reads
use Rattle.chachaqom.proofs.run.chachaqom_run.Kinds as run-kinds
use Rattle.chachaqom.proofs.run.chachaqom_run.Reads as run-reads
use Rattle.chachaqom.proofs.read.chachaqom_read.Kinds as read-kinds
use Rattle.chachaqom.proofs.read.chachaqom_read.Reads as read-reads
use Rattle.chachaqom.proofs.write.chachaqom_write.Kinds as write-kinds
use Rattle.chachaqom.proofs.write.chachaqom_write.Reads as write-reads

-- the number, the answer, the first area and the second
pub refine_unique : (κs : Lfts 4) (a : Dens κs refine-kinds.ps) (r r' : (res_t refine-kinds.r κs).Denot)
    (s s' : AtExit (ended_of 4 refine-kinds.ps refine-kinds.r) κs)
    → refine-reads.Post κs a r s → refine-reads.Post κs a r' s'
    → ((r ≡ r') × (s.1.1.1.1.0.now ≡ s'.1.1.1.1.0.now))
    × (s.1.1.0.now ≡ s'.1.1.0.now) × (s.1.1.1.0.now ≡ s'.1.1.1.0.now)
refine_unique κs a r r' s s' p q =
    (one_answer p.answers q.answers, p.in_first ∙ sym q.in_first, p.in_second ∙ sym q.in_second)

pub prepare_unique : (κs : Lfts 4) (a : Dens κs prepare-kinds.ps) (r r' : (res_t prepare-kinds.r κs).Denot)
    (s s' : AtExit (ended_of 4 prepare-kinds.ps prepare-kinds.r) κs)
    → prepare-reads.Post κs a r s → prepare-reads.Post κs a r' s'
    → ((r ≡ r') × (s.1.1.1.1.0.now ≡ s'.1.1.1.1.0.now))
    × (s.1.1.0.now ≡ s'.1.1.0.now) × (s.1.1.1.0.now ≡ s'.1.1.1.0.now)
prepare_unique κs a r r' s s' p q =
    (one_answer p.answers q.answers, p.in_first ∙ sym q.in_first, p.in_second ∙ sym q.in_second)

pub run_unique : (κs : Lfts 3) (a : Dens κs run-kinds.ps) (r r' : (res_t run-kinds.r κs).Denot)
    (s s' : AtExit (ended_of 3 run-kinds.ps run-kinds.r) κs)
    → run-reads.Post κs a r s → run-reads.Post κs a r' s'
    → ((r ≡ r') × (s.1.1.1.1.1.0.now ≡ s'.1.1.1.1.1.0.now))
    × (s.1.1.1.0.now ≡ s'.1.1.1.0.now) × (s.1.1.1.1.0.now ≡ s'.1.1.1.1.0.now)
run_unique κs a r r' s s' p q =
    (one_answer p.answers q.answers, p.in_first ∙ sym q.in_first, p.in_second ∙ sym q.in_second)

-- the number, the answer, the identifiers, the cells and the marks
pub read_unique : (κs : Lfts 5) (a : Dens κs read-kinds.ps) (r r' : (res_t read-kinds.r κs).Denot)
    (s s' : AtExit (ended_of 5 read-kinds.ps read-kinds.r) κs)
    → read-reads.Post κs a r s → read-reads.Post κs a r' s'
    → ((r ≡ r') × (s.1.1.1.1.0.now ≡ s'.1.1.1.1.0.now))
    × (s.1.0.now ≡ s'.1.0.now) × (s.1.1.0.now ≡ s'.1.1.0.now) × (s.1.1.1.0.now ≡ s'.1.1.1.0.now)
read_unique κs a r r' s s' p q = (
  one_answer p.answers q.answers,
  p.in_identifiers ∙ sym q.in_identifiers,
  p.in_cells ∙ sym q.in_cells,
  p.in_marks ∙ sym q.in_marks,
)

-- the number, the answer and the buffer
pub write_unique : (κs : Lfts 4) (a : Dens κs write-kinds.ps) (r r' : (res_t write-kinds.r κs).Denot)
    (s s' : AtExit (ended_of 4 write-kinds.ps write-kinds.r) κs)
    → write-reads.Post κs a r s → write-reads.Post κs a r' s'
    → ((r ≡ r') × (s.1.1.1.1.0.now ≡ s'.1.1.1.1.0.now)) × (s.1.1.1.0.now ≡ s'.1.1.1.0.now)
write_unique κs a r r' s s' p q = (one_answer p.answers q.answers, p.in_buffer ∙ sym q.in_buffer)
