-- `WorkAreas::refuse` meets its contract: the search is in the matrix that the planes hold.
use mathlib.Core.Path.{◌≡◌, sym, ap, ◌∙◌}
use Prim.Native.Nat.{ℕ}
use lib.ListN.{length, replicate}
use Rattle.std.specs.Prelude.{Option, Some, Err}
use Rattle.std.proofs.Common.{rules}
use Rattle.region.specs.Lookup.{place}
use Rattle.round.proofs.Steps.{gives}
use Rattle.refinement.specs.declared.Contradiction.TheVariants.{Triple}
use Rattle.network.specs.declared.Unrefined.TheVariants.{Refused}
use Rattle.network.proofs.Left.{first_square, size_of, ran_out_there}
use Rattle.network.proofs.leaving.WorkAreas.refuse.Goals as goal

same_place : {found : Option ℕ} {k other : ℕ} → found ≡ Some k → found ≡ Some other → k ≡ other
same_place e f = cc

pub unwrap-k-requires : goal.unwrap-k-requires
unwrap-k-requires c =
    let there = c.give.ensures ∙ gives (first_square c.args.self.now) c.args.old.now c.requires.long in
    let searched = rw c.matrix.ensures.size at c.ran_out.ensures in
    let found = ran_out_there _ _ (c.matrix.ensures.cells ∙ there) c.requires.placed.2 searched in search rules

pub returns-clause-left : goal.returns-clause-left
returns-clause-left c =
    let a = c.args in
    let there = c.give.ensures ∙ gives (first_square a.self.now) a.old.now c.requires.long in
    let searched = rw c.matrix.ensures.size at c.ran_out.ensures in
    let found = ran_out_there _ _ (c.matrix.ensures.cells ∙ there) c.requires.placed.2 searched in
    record {
      told = ap (λ (k : ℕ). Err (Refused (Triple (place a.row) (place k) (place a.column)) a.round)) (same_place c.unwrap-k.ensures found);
      cleared = record {
        in_first = c.clear.ensures.in_first
            ∙ ap (λ (l : ℕ). replicate l 0) (ap length there ∙ size_of a.self.now.n a.old.now ∙ sym a.self.now.first_size);
        in_second = c.clear.ensures.in_second;
      };
    }
