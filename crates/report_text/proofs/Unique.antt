-- No second answer meets the contract of `class_of`, nor that of a class's letter, nor that of `report`: neither another count nor
-- another byte of the buffer.
use mathlib.Core.Path.{◌≡◌, refl, sym, ap, ◌∙◌}
use mathlib.Core.Bool.{cond}
use lib.Dec.{eqb}
use mathlib.Core.List.{List}
use Prim.Native.Nat.{ℕ}
use contract.Lifetimes.{Lfts}
use borrow.Fn.Kinds.{Dens, res_t, ended_of}
use denote.Triple.Clauses.{AtExit}
use Rattle.lists.specs.Laid.{laid}
use Rattle.report_text.specs.Report.{report_of, Reported}
use Rattle.report_text.specs.Class.{observed, determined, enhanced, as_stated, letter_of}
use Rattle.report_text.specs.declared.Class.{Class}
use Rattle.report_text.specs.declared.Class.TheVariants.{Observed, Determined, Enhanced, AsStated, Unknown}
use Rattle.report_text.proofs.U8FromClass.from.Kinds as letter-kinds
use Rattle.report_text.proofs.U8FromClass.from.Reads as letter-reads
use Rattle.report_text.proofs.class_of.Kinds as class-kinds
use Rattle.report_text.proofs.class_of.Reads as class-reads
use Rattle.report_text.proofs.report.Kinds as report-kinds
use Rattle.report_text.proofs.report.Reads as report-reads

-- a letter is that of one class
class_with : ℕ → Class
class_with l =
    cond (eqb l observed) Observed
    (cond (eqb l determined) Determined (cond (eqb l enhanced) Enhanced (cond (eqb l as_stated) AsStated Unknown)))

class_back : (c : Class) → class_with (letter_of c) ≡ c
unfolding class_with
class_back Observed = refl
class_back Determined = refl
class_back Enhanced = refl
class_back AsStated = refl
class_back Unknown = refl

letter_one : (c c' : Class) → letter_of c ≡ letter_of c' → c ≡ c'
letter_one c c' e = sym (class_back c) ∙ ap class_with e ∙ class_back c'

pub class_of_unique : (κs : Lfts 0) (a : Dens κs class-kinds.ps) (r r' : (res_t class-kinds.r κs).Denot)
    (s s' : AtExit (ended_of 0 class-kinds.ps class-kinds.r) κs)
    → class-reads.Post κs a r s → class-reads.Post κs a r' s' → r ≡ r'
class_of_unique κs a r r' s s' p q = letter_one r r' (p ∙ sym q)

pub from_unique : (κs : Lfts 0) (a : Dens κs letter-kinds.ps) (r r' : (res_t letter-kinds.r κs).Denot)
    (s s' : AtExit (ended_of 0 letter-kinds.ps letter-kinds.r) κs)
    → letter-reads.Post κs a r s → letter-reads.Post κs a r' s' → r ≡ r'
from_unique κs a r r' s s' p q = p ∙ sym q

reported_one : {scene buffer b b' : List ℕ} {r r' : ℕ} → Reported scene buffer b r → Reported scene buffer b' r' → (r ≡ r') × (b ≡ b')
reported_one {scene} {buffer} p q =
    let e = p.size ∙ sym q.size in
    (e, p.text ∙ ap (λ (k : ℕ). laid k (report_of scene) buffer) e ∙ sym q.text)

pub report_unique : (κs : Lfts 2) (a : Dens κs report-kinds.ps) (r r' : (res_t report-kinds.r κs).Denot)
    (s s' : AtExit (ended_of 2 report-kinds.ps report-kinds.r) κs)
    → report-reads.Post κs a r s → report-reads.Post κs a r' s' → (r ≡ r') × (s.1.0.now ≡ s'.1.0.now)
report_unique κs a r r' s s' p q = reported_one p q
