-- No second answer meets the contract of `round`.
use mathlib.Core.Path.{◌≡◌, sym, ◌∙◌}
use contract.Lifetimes.{Lfts}
use borrow.Fn.Kinds.{Dens, res_t, ended_of}
use denote.Triple.Clauses.{AtExit}
use Rattle.round.proofs.rounds.round.Kinds as rounding
use Rattle.round.proofs.rounds.round.Reads.{Post as Makes}

-- the answer, and what is left in the new planes and in the room onward
pub round_unique : (κs : Lfts 3) (a : Dens κs rounding.ps) (r r' : (res_t rounding.r κs).Denot)
    (s s' : AtExit (ended_of 3 rounding.ps rounding.r) κs) → Makes κs a r s → Makes κs a r' s'
    → (r ≡ r') × (s.1.1.1.0.now ≡ s'.1.1.1.0.now) × (s.1.1.1.1.0.now ≡ s'.1.1.1.1.0.now)
round_unique κs a r r' s s' p q = (p.came ∙ sym q.came, p.in_new ∙ sym q.in_new, p.in_onward ∙ sym q.in_onward)
