-- `planes::cells::take_rows` meets its contract. The loop's invariant: the blocks of the rows that are taken are laid, the other rows are left.
use Rattle.std.proofs.Common.{◌≡◌, ◌*◌, ◌≤◌, drop}
use Rattle.std.specs.Slice.Iter.{chunks_exact_rest, chunks_exact_size}
use Rattle.std.specs.Iterator.Adapters.{enumerate_source, enumerate_count}
use Rattle.lists.specs.Laid.{laid}
use Rattle.planes.specs.Planes.{matrix_planes}
use Rattle.planes.proofs.cells.take_rows.Given as goal

abbrev pub invariant-loop-i : goal.invariant-loop-i
invariant-loop-i l = record {
  within : enumerate_count l.i-iterator ≤ l.n;
  size : chunks_exact_size (enumerate_source l.i-iterator) ≡ l.n;
  rest : chunks_exact_rest (enumerate_source l.i-iterator) ≡ drop (enumerate_count l.i-iterator * l.n) l.cells;
  so_far : l.planes ≡ laid (8 * enumerate_count l.i-iterator) (matrix_planes l.n l.cells) l.initial.planes;
}
