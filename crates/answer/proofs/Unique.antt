-- No second answer meets the contract of `tell` or of `put_answer`.
use mathlib.Core.Path.{◌≡◌, sym, ap, ◌∙◌}
use contract.Lifetimes.{Lfts}
use denote.Triple.Clauses.{AtExit}
use borrow.Fn.Kinds.{Dens, res_t, ended_of}
use Rattle.answer.specs.Answer.{Answer}
use Rattle.answer.specs.Told.{told}
use Rattle.answer.specs.declared.Numbers.{Numbers}
use Rattle.answer.proofs.Exporting.{one_answer}
use Rattle.answer.proofs.tell.Kinds as telling-kinds
use Rattle.answer.proofs.tell.Reads as telling-reads
use Rattle.answer.proofs.put_answer.Kinds as put-kinds
use Rattle.answer.proofs.put_answer.Reads as put_reads

-- the code's numbers of an answer
telling : Answer → Numbers
telling a =
    record { number = a.number; first = a.first; second = a.second; third = a.third; count = a.count }

-- numbers that tell the same answer are the same
pub told_one : (r r' : Numbers) (a : Answer) → told r ≡ a → told r' ≡ a → r ≡ r'
unfolding telling
told_one r r' a p q = ap telling (p ∙ sym q)

pub tell_unique : (κs : Lfts 0) (a : Dens κs telling-kinds.ps) (r r' : (res_t telling-kinds.r κs).Denot)
    (s s' : AtExit (ended_of 0 telling-kinds.ps telling-kinds.r) κs)
    → telling-reads.Post κs a r s → telling-reads.Post κs a r' s' → r ≡ r'
tell_unique κs a r r' s s' p q = told_one r r' _ p q

-- the number and the answer area
pub put_answer_unique : (κs : Lfts 1) (a : Dens κs put-kinds.ps) (r r' : (res_t put-kinds.r κs).Denot)
    (s s' : AtExit (ended_of 1 put-kinds.ps put-kinds.r) κs)
    → put_reads.Post κs a r s → put_reads.Post κs a r' s' → (r ≡ r') × (s.0.now ≡ s'.0.now)
put_answer_unique κs a r r' s s' p q = one_answer p q
