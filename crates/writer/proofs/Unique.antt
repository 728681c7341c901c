-- No second answer meets the contract of `write`, whose numbers tell its answers apart, or of `of_writing`.
use mathlib.Core.Path.{◌≡◌, refl, sym, ap, ◌∙◌}
use mathlib.Core.Bool.{cond}
use lib.Dec.{eqb}
use contract.Lifetimes.{Lfts}
use denote.Triple.Clauses.{AtExit}
use borrow.Fn.Kinds.{Dens, res_t, ended_of}
use Rattle.std.specs.Prelude.{ℕ, Result, Ok, Err}
use Rattle.region.specs.Lookup.{place}
use Rattle.answer.specs.Answer.{Answer}
use Rattle.answer.proofs.Unique.{told_one}
use Rattle.writer.specs.Numbers.{answer_of}
use Rattle.writer.specs.declared.Unwritten.{Unwritten}
use Rattle.writer.specs.declared.Unwritten.TheVariants.{OutOfRange, WrongLength, IdentifierZero, DeclaredTwice, EmptySet, TooLong, NoRoom}
use Rattle.writer.proofs.write.Kinds as kinds
use Rattle.writer.proofs.write.Reads.{Post}
use Rattle.writer.proofs.numbers.of_writing.Kinds as telling-kinds
use Rattle.writer.proofs.numbers.of_writing.Reads as telling-reads

-- the answer that has these numbers
writing_of : Answer → Result ℕ Unwritten
writing_of a =
    cond (eqb a.number 0) (Ok a.count)
    (Err (cond (eqb a.number 1) OutOfRange
    (cond (eqb a.number 2) WrongLength
    (cond (eqb a.number 3) TooLong
    (cond (eqb a.number 6) (IdentifierZero (place a.first))
    (cond (eqb a.number 7) (DeclaredTwice (place a.first))
    (cond (eqb a.number 10) (EmptySet (place a.first) (place a.second)) NoRoom)))))))

-- the numbers of an answer give it back
numbers_back : (writing : Result ℕ Unwritten) → writing_of (answer_of writing) ≡ writing
unfolding writing_of
numbers_back (Ok bytes) = refl
numbers_back (Err OutOfRange) = refl
numbers_back (Err WrongLength) = refl
numbers_back (Err (IdentifierZero p)) = refl
numbers_back (Err (DeclaredTwice p)) = refl
numbers_back (Err (EmptySet i j)) = refl
numbers_back (Err TooLong) = refl
numbers_back (Err NoRoom) = refl

-- answers with the same numbers are the same
pub same_numbers : (a b : Result ℕ Unwritten) → answer_of a ≡ answer_of b → a ≡ b
same_numbers a b e = sym (numbers_back a) ∙ ap writing_of e ∙ numbers_back b

pub write_unique : (κs : Lfts 3) (a : Dens κs kinds.ps) (r r' : (res_t kinds.r κs).Denot)
    (s s' : AtExit (ended_of 3 kinds.ps kinds.r) κs)
    → Post κs a r s → Post κs a r' s' → (r ≡ r') × (s.1.1.1.0.now ≡ s'.1.1.1.0.now)
write_unique κs a r r' s s' p q = (same_numbers r r' (p.answer ∙ sym q.answer), p.buffer ∙ sym q.buffer)

pub of_writing_unique : (κs : Lfts 0) (a : Dens κs telling-kinds.ps) (r r' : (res_t telling-kinds.r κs).Denot)
    (s s' : AtExit (ended_of 0 telling-kinds.ps telling-kinds.r) κs)
    → telling-reads.Post κs a r s → telling-reads.Post κs a r' s' → r ≡ r'
of_writing_unique κs a r r' s s' p q = told_one r r' _ p q
