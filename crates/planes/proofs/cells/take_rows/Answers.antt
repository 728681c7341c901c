-- `planes::cells::take_rows` meets its contract. The loop's invariant: the rows taken are laid as blocks, and the others are left.
use Prim.Native.Nat.{ℕ, ◌*◌}
use mathlib.Core.List.{List}
use mathlib.Core.Path.{◌≡◌, sym, ap, ◌∙◌}
use native.Mathlib.Nat.{zero-mul}
use native.Mathlib.Omega.{arith}
use lib.ListN.{length, drop}
use Rattle.lists.specs.Laid.{laid}
use Rattle.lists.proofs.LaidLaws.{laid_none, laid_all}
use Rattle.rows.specs.Rows.{row_words}
use Rattle.std.specs.Iterator.Adapters.{enumerate_source, enumerate_count}
use Rattle.std.specs.Slice.Iter.{chunks_exact_rest}
use Rattle.planes.specs.Planes.{block_of, lane_cell, matrix_planes}
use Rattle.planes.specs.Calls.{stored}
use Rattle.planes.proofs.Laying.{block_put}
use Rattle.planes.proofs.Blocks.{length_planes}
use Rattle.planes.proofs.Crossing.{next_row, no_row, row_block}
use Rattle.std.proofs.Common.{rules}
use Rattle.planes.proofs.cells.take_rows.Goals as goal

pub loop-i-init : goal.loop-i-init
loop-i-init c =
    let none : 0 ≡ enumerate_count c.into_iter-i-iterator.result = search rules in
    record {
      within = search rules;
      size = search rules;
      rest = ap (λ p. chunks_exact_rest (enumerate_source p)) c.into_iter-i-iterator.ensures.into_iter_gives
          ∙ ap chunks_exact_rest c.enumerate-i-items.ensures.source ∙ c.chunks_exact.ensures.rest
          ∙ ap (λ (k : ℕ). drop k c.args.cells.now) (sym (zero-mul c.args.n) ∙ ap (λ (k : ℕ). k * c.args.n) none);
      so_far = laid_none _ _ ∙ ap (λ (k : ℕ). laid (8 * k) (matrix_planes c.args.n c.args.cells.now) c.args.planes.now) none;
    }

pub loop-i-preserved : goal.loop-i-preserved
loop-i-preserved c =
    let loop = c.loop-i in
    let args = c.args in
    let s = c.requires in
    let step = c.in-Some.ensures.steps in
    let i : ℕ = enumerate_count loop.i-iterator in
    let planes : List ℕ = matrix_planes args.n args.cells.now in
    let next = next_row args.n i args.cells.now _ s.some s.size loop.invariant.within loop.invariant.rest c.in-Some.row.now _ step.0.1.0
    (step.0.1.1 ∙ loop.invariant.size) in
    let long : length planes ≡ 8 * args.n = length_planes args.n (lane_cell 64 args.n args.cells.now) in
    let block : c.take_row.result ≡ block_of planes i =
    c.take_row.ensures ∙ ap row_words next.is ∙ row_block args.n args.cells.now s.few s.size i next.here in
    record {
      within = let h = next.here in omega arith;
      size = step.0.0 ∙ loop.invariant.size;
      rest = next.behind ∙ ap (λ (k : ℕ). drop (k * args.n) args.cells.now) (sym step.2);
      so_far = c.put_block.ensures ∙ ap (λ (k : ℕ). stored loop.planes k c.take_row.result) step.1
          ∙ block_put planes args.planes.now loop.planes c.take_row.result i (let h = next.here in omega arith) (s.whole ∙ sym long)
          (loop.auto.planes ∙ s.whole ∙ sym long) block loop.invariant.so_far
          ∙ ap (λ (k : ℕ). laid (8 * k) planes args.planes.now) (sym step.2);
    }

pub returns : goal.returns
returns c =
    let loop = c.loop-i in
    let args = c.args in
    let s = c.requires in
    let left = c.in-None.ensures.steps.0.1.0 in
    let all : enumerate_count loop.i-iterator ≡ args.n = no_row args.n _ args.cells.now _ s.some s.size loop.invariant.within loop.invariant.rest (omega arith) in
    loop.invariant.so_far ∙ ap (λ (k : ℕ). laid (8 * k) (matrix_planes args.n args.cells.now) args.planes.now) all
    ∙ laid_all (8 * args.n) (matrix_planes args.n args.cells.now) args.planes.now (length_planes args.n _) s.whole
