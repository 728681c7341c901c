-- No second answer meets the contract of a function that files.
use mathlib.Core.Path.{◌≡◌, sym, ap, ◌∙◌}
use contract.Lifetimes.{Lfts}
use denote.Builtin.{u16}
use denote.Param.Laws.{Laws, IsCopy}
use denote.RattleType.{RattleType}
use denote.Triple.Clauses.{AtExit}
use mir.Syntax.{Dict}
use Rattle.std.specs.declared.clone.Clone.{Ghosts}
use borrow.Fn.Kinds.{Dens, res_t, ended_of}
use Rattle.filing.specs.Areas.{Areas}
use Rattle.filing.specs.LentAreas.{held}
use Rattle.filing.proofs.are_lent.Kinds as lending
use Rattle.filing.proofs.are_lent.Reads.{Post as Lends}
use Rattle.filing.proofs.place_of.Kinds as looking
use Rattle.filing.proofs.place_of.Reads.{Post as Finds}
use Rattle.filing.proofs.begin.Kinds as beginning
use Rattle.filing.proofs.begin.Reads.{Post as Begins}
use Rattle.filing.proofs.clear.Kinds as clearing
use Rattle.filing.proofs.clear.Reads.{Post as Clears}
use Rattle.filing.proofs.put_region.Kinds as putting
use Rattle.filing.proofs.put_region.Reads.{Post as Puts}
use Rattle.filing.proofs.mark.Kinds as marking
use Rattle.filing.proofs.mark.Reads.{Post as Marks}
use Rattle.filing.proofs.file.Kinds as filing
use Rattle.filing.proofs.file.Reads.{Post as Files}
use Rattle.filing.proofs.pack.Kinds as packing
use Rattle.filing.proofs.pack.Reads.{Post as Packs}
use Rattle.filing.proofs.LentAreas.are_lent.Kinds as areas-lending
use Rattle.filing.proofs.LentAreas.are_lent.Reads.{Post as AreasLend}
use Rattle.filing.proofs.LentAreas.identifiers.Kinds as showing
use Rattle.filing.proofs.LentAreas.identifiers.Reads.{Post as Shows}
use Rattle.filing.proofs.LentAreas.begin.Kinds as areas-beginning
use Rattle.filing.proofs.LentAreas.begin.Reads.{Post as AreasBegin}
use Rattle.filing.proofs.LentAreas.clear.Kinds as areas-clearing
use Rattle.filing.proofs.LentAreas.clear.Reads.{Post as AreasClear}
use Rattle.filing.proofs.LentAreas.put_region.Kinds as areas-putting
use Rattle.filing.proofs.LentAreas.put_region.Reads.{Post as AreasPut}
use Rattle.filing.proofs.LentAreas.mark.Kinds as areas-marking
use Rattle.filing.proofs.LentAreas.mark.Reads.{Post as AreasMark}
use Rattle.filing.proofs.LentAreas.file.Kinds as areas-filing
use Rattle.filing.proofs.LentAreas.file.Reads.{Post as AreasFile}

-- equal areas are equal each by each
pub each_area : {one other : Areas} → one ≡ other
    → (one.identifiers ≡ other.identifiers) × (one.cells ≡ other.cells) × (one.marks ≡ other.marks)
each_area e = (ap (λ (a : Areas). a.identifiers) e, ap (λ (a : Areas). a.cells) e, ap (λ (a : Areas). a.marks) e)

pub are_lent_unique : (κs : Lfts 3) (a : Dens κs lending.ps) (r r' : (res_t lending.r κs).Denot)
    (s s' : AtExit (ended_of 3 lending.ps lending.r) κs) → Lends κs a r s → Lends κs a r' s' → r ≡ r'
are_lent_unique κs a r r' s s' p q = p ∙ sym q

pub place_of_unique : (κs : Lfts 1) (a : Dens κs looking.ps) (r r' : (res_t looking.r κs).Denot)
    (s s' : AtExit (ended_of 1 looking.ps looking.r) κs) → Finds κs a r s → Finds κs a r' s' → r ≡ r'
place_of_unique κs a r r' s s' p q = p ∙ sym q

pub begin_unique : (κs : Lfts 3) (a : Dens κs beginning.ps) (r r' : (res_t beginning.r κs).Denot)
    (s s' : AtExit (ended_of 3 beginning.ps beginning.r) κs) → Begins κs a r s → Begins κs a r' s'
    → (s.0.now ≡ s'.0.now) × (s.1.0.now ≡ s'.1.0.now) × (s.1.1.0.now ≡ s'.1.1.0.now)
begin_unique κs a r r' s s' p q = each_area (p ∙ sym q)

pub clear_unique : (κs : Lfts 3) (a : Dens κs clearing.ps) (r r' : (res_t clearing.r κs).Denot)
    (s s' : AtExit (ended_of 3 clearing.ps clearing.r) κs) → Clears κs a r s → Clears κs a r' s'
    → (s.0.now ≡ s'.0.now) × (s.1.0.now ≡ s'.1.0.now) × (s.1.1.0.now ≡ s'.1.1.0.now)
clear_unique κs a r r' s s' p q = each_area (p ∙ sym q)

pub put_region_unique : (κs : Lfts 1) (a : Dens κs putting.ps) (r r' : (res_t putting.r κs).Denot)
    (s s' : AtExit (ended_of 1 putting.ps putting.r) κs) → Puts κs a r s → Puts κs a r' s' → s.0.now ≡ s'.0.now
put_region_unique κs a r r' s s' p q = p ∙ sym q

pub file_unique : (κs : Lfts 1) (a : Dens κs filing.ps) (r r' : (res_t filing.r κs).Denot)
    (s s' : AtExit (ended_of 1 filing.ps filing.r) κs) → Files κs a r s → Files κs a r' s' → s.0.now ≡ s'.0.now
file_unique κs a r r' s s' p q = p ∙ sym q

pub mark_unique : (κs : Lfts 2) (a : Dens κs marking.ps) (r r' : (res_t marking.r κs).Denot)
    (s s' : AtExit (ended_of 2 marking.ps marking.r) κs) → Marks κs a r s → Marks κs a r' s' → s.1.0.now ≡ s'.1.0.now
mark_unique κs a r r' s s' p q = p ∙ sym q

-- whatever the entries are
module _ (T : RattleType) (L : Laws T) (C : IsCopy T) (G : Ghosts T.Denot) (d : Dict) where
  pub pack_unique : (κs : Lfts 2) (a : Dens κs (packing.ps T L C)) (r r' : (res_t (packing.r T L C) κs).Denot)
      (s s' : AtExit (ended_of 2 (packing.ps T L C) (packing.r T L C)) κs)
      → Packs T L C G d κs a r s → Packs T L C G d κs a r' s' → s.0.now ≡ s'.0.now
  pack_unique κs a r r' s s' p q = p ∙ sym q

-- so of marks, which are of 16 bits
module _ (L : Laws u16) (C : IsCopy u16) (G : Ghosts u16.Denot) (d : Dict) where
  pub pack_marks_unique : (κs : Lfts 2) (a : Dens κs (packing.ps u16 L C)) (r r' : (res_t (packing.r u16 L C) κs).Denot)
      (s s' : AtExit (ended_of 2 (packing.ps u16 L C) (packing.r u16 L C)) κs)
      → Packs u16 L C G d κs a r s → Packs u16 L C G d κs a r' s' → s.0.now ≡ s'.0.now
  pack_marks_unique = pack_unique u16 L C G d

-- and of the lent areas as one
pub areas_lent_unique : (κs : Lfts 2) (a : Dens κs areas-lending.ps) (r r' : (res_t areas-lending.r κs).Denot)
    (s s' : AtExit (ended_of 2 areas-lending.ps areas-lending.r) κs) → AreasLend κs a r s → AreasLend κs a r' s' → r ≡ r'
areas_lent_unique κs a r r' s s' p q = p ∙ sym q

pub identifiers_unique : (κs : Lfts 2) (a : Dens κs showing.ps) (r r' : (res_t showing.r κs).Denot)
    (s s' : AtExit (ended_of 2 showing.ps showing.r) κs) → Shows κs a r s → Shows κs a r' s' → r.now ≡ r'.now
identifiers_unique κs a r r' s s' p q = p ∙ sym q

pub areas_begin_unique : (κs : Lfts 2) (a : Dens κs areas-beginning.ps) (r r' : (res_t areas-beginning.r κs).Denot)
    (s s' : AtExit (ended_of 2 areas-beginning.ps areas-beginning.r) κs) → AreasBegin κs a r s → AreasBegin κs a r' s' → held s.0.now ≡ held s'.0.now
areas_begin_unique κs a r r' s s' p q = p.1 ∙ sym q.1

pub areas_clear_unique : (κs : Lfts 2) (a : Dens κs areas-clearing.ps) (r r' : (res_t areas-clearing.r κs).Denot)
    (s s' : AtExit (ended_of 2 areas-clearing.ps areas-clearing.r) κs) → AreasClear κs a r s → AreasClear κs a r' s' → held s.0.now ≡ held s'.0.now
areas_clear_unique κs a r r' s s' p q = p.1 ∙ sym q.1

pub areas_put_region_unique : (κs : Lfts 2) (a : Dens κs areas-putting.ps) (r r' : (res_t areas-putting.r κs).Denot)
    (s s' : AtExit (ended_of 2 areas-putting.ps areas-putting.r) κs) → AreasPut κs a r s → AreasPut κs a r' s' → held s.0.now ≡ held s'.0.now
areas_put_region_unique κs a r r' s s' p q = p.1 ∙ sym q.1

pub areas_mark_unique : (κs : Lfts 2) (a : Dens κs areas-marking.ps) (r r' : (res_t areas-marking.r κs).Denot)
    (s s' : AtExit (ended_of 2 areas-marking.ps areas-marking.r) κs) → AreasMark κs a r s → AreasMark κs a r' s' → held s.0.now ≡ held s'.0.now
areas_mark_unique κs a r r' s s' p q = p.1 ∙ sym q.1

pub areas_file_unique : (κs : Lfts 2) (a : Dens κs areas-filing.ps) (r r' : (res_t areas-filing.r κs).Denot)
    (s s' : AtExit (ended_of 2 areas-filing.ps areas-filing.r) κs) → AreasFile κs a r s → AreasFile κs a r' s' → held s.0.now ≡ held s'.0.now
areas_file_unique κs a r r' s s' p q = p.1 ∙ sym q.1
