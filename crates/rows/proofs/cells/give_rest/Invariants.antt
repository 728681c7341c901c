-- `rows::cells::give_rest` meets its contract. The loop's invariant: the cells before the place are the bytes.
use Rattle.std.proofs.Common.{length, take}
use Rattle.lists.proofs.Filling.{Filling}
use Rattle.rows.proofs.cells.give_rest.Given as goal

abbrev pub invariant-loop-place : goal.invariant-loop-place
invariant-loop-place l = Filling (take (length l.initial.cells) l.fn.bytes) l.initial.cells l.cells l.place
