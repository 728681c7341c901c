-- No second answer meets the contract of `number_at`, of `put_number` or of `put_two_bytes`.
use mathlib.Core.Path.{◌≡◌, sym, ◌∙◌}
use contract.Lifetimes.{Lfts}
use denote.Triple.Clauses.{AtExit}
use borrow.Fn.Kinds.{Dens, res_t, ended_of}
use Rattle.lists.proofs.number_at.Kinds as read
use Rattle.lists.proofs.number_at.Reads as number_at
use Rattle.lists.proofs.put_number.Kinds as put
use Rattle.lists.proofs.put_number.Reads as put-number
use Rattle.lists.proofs.put_two_bytes.Kinds as put_two
use Rattle.lists.proofs.put_two_bytes.Reads as put-two-bytes

pub number_at_unique : (κs : Lfts 1) (a : Dens κs read.ps) (r r' : (res_t read.r κs).Denot)
    (s s' : AtExit (ended_of 1 read.ps read.r) κs)
    → number_at.Post κs a r s → number_at.Post κs a r' s' → r ≡ r'
number_at_unique κs a r r' s s' p q = p ∙ sym q

pub put_number_unique : (κs : Lfts 1) (a : Dens κs put.ps) (r r' : (res_t put.r κs).Denot)
    (s s' : AtExit (ended_of 1 put.ps put.r) κs)
    → put-number.Post κs a r s → put-number.Post κs a r' s' → s.0.now ≡ s'.0.now
put_number_unique κs a r r' s s' p q = p ∙ sym q

pub put_two_bytes_unique : (κs : Lfts 1) (a : Dens κs put_two.ps) (r r' : (res_t put_two.r κs).Denot)
    (s s' : AtExit (ended_of 1 put_two.ps put_two.r) κs)
    → put-two-bytes.Post κs a r s → put-two-bytes.Post κs a r' s' → s.0.now ≡ s'.0.now
put_two_bytes_unique κs a r r' s s' p q = p ∙ sym q
