-- `planes::cells::give_rows` meets its contract. The loop's invariant: the rows before i are given back.
use Prim.Native.Nat.{◌*◌}
use mathlib.Core.Path.{◌≡◌}
use Rattle.lists.specs.Laid.{laid}
use Rattle.planes.specs.Planes.{planes_matrix}
use Rattle.planes.proofs.cells.give_rows.Given as goal

abbrev pub invariant-loop-i : goal.invariant-loop-i
invariant-loop-i l = l.cells ≡ laid (l.i * l.n) (planes_matrix l.n l.planes) l.initial.cells
