-- No second answer meets the contracts of `Refusal::number`, `Kind::try_from`, `read`, `refused_record` and `of_reading`.
use mathlib.Core.Path.{◌≡◌, refl, sym, ap, ◌∙◌}
use Prim.Native.Nat.{ℕ}
use mathlib.Core.List.{[], ◌∷◌}
use lib.ListN.{get_or}
use contract.Lifetimes.{Lfts}
use denote.Triple.Clauses.{AtExit}
use borrow.Fn.Kinds.{Dens, res_t, ended_of}
use Rattle.std.specs.Prelude.{Result, Ok, Err}
use Rattle.answer.specs.Answer.{Answer}
use Rattle.answer.proofs.Unique.{told_one}
use Rattle.filing.proofs.Unique.{each_area}
use Rattle.scene.specs.Numbers.{answer_of}
use Rattle.scene.specs.declared.Unread.{Unread}
use Rattle.scene.specs.declared.Unread.TheVariants.{WrongLength, TooLong, Refused}
use Rattle.scene.specs.declared.Refusal.{Refusal}
use Rattle.scene.specs.declared.Refusal.TheVariants.{NoRegion, CutShort, UnknownKind, IdentifierZero, DeclaredTwice}
use Rattle.scene.specs.declared.Refusal.TheVariants.{TooManyRegions, NotDeclared, EmptySet, BytesLeft}
use Rattle.scene.proofs.Refusal.number.Kinds as number-kinds
use Rattle.scene.proofs.Refusal.number.Reads as number-reads
use Rattle.scene.proofs.format.KindTryFromU8.try_from.Kinds as kind-kinds
use Rattle.scene.proofs.format.KindTryFromU8.try_from.Reads as kind-reads
use Rattle.scene.proofs.read.Kinds as read-kinds
use Rattle.scene.proofs.read.Reads as read-reads
use Rattle.scene.proofs.refused_record.Kinds as part-kinds
use Rattle.scene.proofs.refused_record.Reads as part-reads
use Rattle.scene.proofs.numbers.of_reading.Kinds as telling-kinds
use Rattle.scene.proofs.numbers.of_reading.Reads as telling-reads

pub number_unique : (κs : Lfts 0) (a : Dens κs number-kinds.ps) (r r' : (res_t number-kinds.r κs).Denot)
    (s s' : AtExit (ended_of 0 number-kinds.ps number-kinds.r) κs)
    → number-reads.Post κs a r s → number-reads.Post κs a r' s' → r ≡ r'
number_unique κs a r r' s s' p q = p ∙ sym q

pub kind_unique : (κs : Lfts 0) (a : Dens κs kind-kinds.ps) (r r' : (res_t kind-kinds.r κs).Denot)
    (s s' : AtExit (ended_of 0 kind-kinds.ps kind-kinds.r) κs)
    → kind-reads.Post κs a r s → kind-reads.Post κs a r' s' → r ≡ r'
kind_unique κs a r r' s s' p q = p ∙ sym q

pub refused_record_unique : (κs : Lfts 1) (a : Dens κs part-kinds.ps) (r r' : (res_t part-kinds.r κs).Denot)
    (s s' : AtExit (ended_of 1 part-kinds.ps part-kinds.r) κs)
    → part-reads.Post κs a r s → part-reads.Post κs a r' s' → (r.now ≡ r'.now) × (r.ref_ptr ≡ r'.ref_ptr)
refused_record_unique κs a r r' s s' p q = (p.bytes ∙ sym q.bytes, p.itself ∙ sym q.itself)

-- the reading that an answer stands for: by its number, from 0
reading_of : Answer → Result ℕ Unread
reading_of a =
    get_or
    (Ok a.count
    ∷ Err (Refused NoRegion a.first)
    ∷ Err WrongLength
    ∷ Err TooLong
    ∷ Err (Refused CutShort a.first)
    ∷ Err (Refused UnknownKind a.first)
    ∷ Err (Refused IdentifierZero a.first)
    ∷ Err (Refused DeclaredTwice a.first)
    ∷ Err (Refused TooManyRegions a.first)
    ∷ Err (Refused NotDeclared a.first)
    ∷ Err (Refused EmptySet a.first)
    ∷ Err (Refused BytesLeft a.first)
    ∷ [])
    a.number
    (Err WrongLength)

refused_back : (refusal : Refusal) (offset : ℕ) → reading_of (answer_of (Err (Refused refusal offset))) ≡ Err (Refused refusal offset)
unfolding reading_of
refused_back NoRegion offset = refl
refused_back CutShort offset = refl
refused_back UnknownKind offset = refl
refused_back IdentifierZero offset = refl
refused_back DeclaredTwice offset = refl
refused_back TooManyRegions offset = refl
refused_back NotDeclared offset = refl
refused_back EmptySet offset = refl
refused_back BytesLeft offset = refl

reading_back : (reading : Result ℕ Unread) → reading_of (answer_of reading) ≡ reading
unfolding reading_of
reading_back (Ok regions) = refl
reading_back (Err WrongLength) = refl
reading_back (Err TooLong) = refl
reading_back (Err (Refused refusal offset)) = refused_back refusal offset

-- so two readings with the same answer are the same
pub answer_tells : (reading other : Result ℕ Unread) → answer_of reading ≡ answer_of other → reading ≡ other
answer_tells reading other e = sym (reading_back reading) ∙ ap reading_of e ∙ reading_back other

pub read_unique : (κs : Lfts 4) (a : Dens κs read-kinds.ps) (r r' : (res_t read-kinds.r κs).Denot)
    (s s' : AtExit (ended_of 4 read-kinds.ps read-kinds.r) κs)
    → read-reads.Post κs a r s → read-reads.Post κs a r' s'
    → (r ≡ r') × (s.1.0.now ≡ s'.1.0.now) × (s.1.1.0.now ≡ s'.1.1.0.now) × (s.1.1.1.0.now ≡ s'.1.1.1.0.now)
read_unique κs a r r' s s' p q =
    let each = each_area (p.areas ∙ sym q.areas) in (answer_tells r r' (p.answer ∙ sym q.answer), each.0, each.1, each.2)

pub of_reading_unique : (κs : Lfts 0) (a : Dens κs telling-kinds.ps) (r r' : (res_t telling-kinds.r κs).Denot)
    (s s' : AtExit (ended_of 0 telling-kinds.ps telling-kinds.r) κs)
    → telling-reads.Post κs a r s → telling-reads.Post κs a r' s' → r ≡ r'
of_reading_unique κs a r r' s s' p q = told_one r r' _ p q
