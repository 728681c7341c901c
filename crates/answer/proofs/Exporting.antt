-- What an export promises of its answer area, by the length of that area.
use mathlib.Core.Path.{◌≡◌, sym, ◌∙◌, subst}
use mathlib.Core.Bool.{false}
use mathlib.Core.List.{List}
use Prim.Native.Nat.{ℕ}
use borrow.Author.Tests.{eq-eqb, ne_eqb}
use lib.ListN.{length}
use Rattle.answer.specs.Answer.{Answer}
use Rattle.answer.specs.Bytes.{fits, Answers, left_with}

-- an answer area of another length: 2, and every area as it was
pub unfit_answers : (numbers : Answer) (area : List ℕ) → (length area ≡ 20 → ⊥) → Answers numbers area area 2
unfit_answers numbers area h =
    let b : fits area ≡ false = ne_eqb (length area) 20 h in record { returned = rw b; in_answer = rw b }

pub unfit_leaves : (answer after before : List ℕ) → (length answer ≡ 20 → ⊥) → before ≡ left_with answer after before
unfit_leaves answer after before h = rw (ne_eqb (length answer) 20 h)

-- one of 20 bytes: what the call behind the export left
pub fit_leaves : {after' after : List ℕ} (answer before : List ℕ) → length answer ≡ 20 → after' ≡ after → after' ≡ left_with answer after before
fit_leaves answer before h e = rw (eq-eqb (length answer) 20 h) e

-- the numbers of an answer by what they are equal to
pub same-answers : {numbers other : Answer} {area area' : List ℕ} {number : ℕ} → numbers ≡ other → Answers numbers area area' number
    → Answers other area area' number
same-answers {area = area} {area' = area'} {number = number} e a = subst (λ (x : Answer). Answers x area area' number) e a

-- an export has one number and one answer
pub one_answer : {numbers : Answer} {area area' area'' : List ℕ} {number number' : ℕ} → Answers numbers area area' number
    → Answers numbers area area'' number' → (number ≡ number') × (area' ≡ area'')
one_answer p q = (p.returned ∙ sym q.returned, p.in_answer ∙ sym q.in_answer)
