-- No second answer meets the contract of `take`, of `give`, of `block_at` or of `put_block`.
use mathlib.Core.Path.{◌≡◌, sym, ◌∙◌}
use contract.Lifetimes.{Lfts}
use borrow.Fn.Kinds.{Dens, res_t, ended_of}
use denote.Triple.Clauses.{AtExit}
use Rattle.relation.proofs.Unique.{OneAnswer}
use Rattle.planes.proofs.cells.take.Kinds as taking
use Rattle.planes.proofs.cells.take.Reads.{Post as Takes}
use Rattle.planes.proofs.cells.give.Kinds as giving
use Rattle.planes.proofs.cells.give.Reads.{Post as Gives}
use Rattle.planes.proofs.words.block_at.Kinds as reading
use Rattle.planes.proofs.words.block_at.Reads.{Post as Reads}
use Rattle.planes.proofs.words.put_block.Kinds as putting
use Rattle.planes.proofs.words.put_block.Reads.{Post as Puts}

-- what is left in the planes
pub take_unique : (κs : Lfts 2) (a : Dens κs taking.ps) (r r' : (res_t taking.r κs).Denot)
    (s s' : AtExit (ended_of 2 taking.ps taking.r) κs) → Takes κs a r s → Takes κs a r' s' → s.1.1.0.now ≡ s'.1.1.0.now
take_unique κs a r r' s s' p q = p ∙ sym q

-- what is left in the cells
pub give_unique : (κs : Lfts 2) (a : Dens κs giving.ps) (r r' : (res_t giving.r κs).Denot)
    (s s' : AtExit (ended_of 2 giving.ps giving.r) κs) → Gives κs a r s → Gives κs a r' s' → s.1.1.0.now ≡ s'.1.1.0.now
give_unique κs a r r' s s' p q = p ∙ sym q

pub block_at_unique : OneAnswer 1 reading.ps reading.r Reads
block_at_unique κs a r r' s s' p q = p ∙ sym q

-- what is left in the words
pub put_block_unique : (κs : Lfts 1) (a : Dens κs putting.ps) (r r' : (res_t putting.r κs).Denot)
    (s s' : AtExit (ended_of 1 putting.ps putting.r) κs) → Puts κs a r s → Puts κs a r' s' → s.0.now ≡ s'.0.now
put_block_unique κs a r r' s s' p q = p ∙ sym q
