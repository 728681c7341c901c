-- No second answer meets the contract of `take_row` or that of `give_row`.
use mathlib.Core.Path.{◌≡◌, sym, ◌∙◌}
use contract.Lifetimes.{Lfts}
use borrow.Fn.Kinds.{Dens, res_t, ended_of}
use denote.Triple.Clauses.{AtExit}
use Rattle.relation.proofs.Unique.{OneAnswer}
use Rattle.rows.proofs.cells.take_row.Kinds as taking
use Rattle.rows.proofs.cells.take_row.Reads.{Post as Takes}
use Rattle.rows.proofs.cells.give_row.Kinds as giving
use Rattle.rows.proofs.cells.give_row.Reads.{Post as Gives}

pub take_row_unique : OneAnswer 1 taking.ps taking.r Takes
take_row_unique κs a x y s t p q = p ∙ sym q

-- what is left in the cells
pub give_row_unique : (κs : Lfts 1) (a : Dens κs giving.ps) (r r' : (res_t giving.r κs).Denot)
    (s s' : AtExit (ended_of 1 giving.ps giving.r) κs) → Gives κs a r s → Gives κs a r' s' → s.1.0.now ≡ s'.1.0.now
give_row_unique κs a r r' s s' p q = p ∙ sym q
