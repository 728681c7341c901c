-- Areas of the right lengths, as a test and as a fact.
use mathlib.Core.Path.{◌≡◌, ◌∙◌}
use mathlib.Core.Bool.{true, ◌&&◌}
use Rattle.std.proofs.lemmas.Bool.{and_parts}
use Prim.Native.Nat.{ℕ}
use lib.Dec.{eqb}
use lib.ListN.{length}
use borrow.Author.Tests.{eqb-true}
use Rattle.filing.specs.declared.LentAreas.{LentAreas}
use Rattle.filing.specs.LentAreas.{SameAreas}
use Rattle.filing.specs.Areas.{Areas, Lent, are_lent, lent_identifiers, lent_cells, started}

pub are_lent_lem : {areas : Areas} → Lent areas → are_lent areas ≡ true
unfolding are_lent
are_lent_lem lent = rw (lent.identifiers-long, lent.cells-long, lent.marks-long)

pub lent_so : (areas : Areas) → are_lent areas ≡ true → Lent areas
unfolding are_lent
lent_so areas e =
    let identifiers = and_parts (eqb (length areas.identifiers) lent_identifiers)
    (eqb (length areas.cells) lent_cells && eqb (length areas.marks) lent_cells) e in
    let others = and_parts (eqb (length areas.cells) lent_cells) (eqb (length areas.marks) lent_cells) identifiers.1 in
    record {
      identifiers-long = eqb-true (length areas.identifiers) lent_identifiers identifiers.0;
      cells-long = eqb-true (length areas.cells) lent_cells others.0;
      marks-long = eqb-true (length areas.marks) lent_cells others.1;
    }

-- what is started in one is started in the other
pub started-same : {one other : Areas} (x : ℕ) → Lent one → Lent other → started x one ≡ started x other
started-same x a b =
    rw (a.identifiers-long, a.cells-long, a.marks-long, b.identifiers-long, b.cells-long, b.marks-long)

-- areas that are the caller's through one call after the other
pub same_areas : {one other last : LentAreas} → SameAreas one other → SameAreas other last → SameAreas one last
same_areas a b = record {
  identifiers = b.identifiers ∙ a.identifiers;
  cells = b.cells ∙ a.cells;
  marks = b.marks ∙ a.marks;
}
