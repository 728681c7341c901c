-- The invariant of the loop of `writer::named::NamedMatrix::put_statements`: the statements of the cells before `cell` are put.
use mathlib.Core.Path.{◌≡◌}
use lib.ListN.{length}
use Rattle.writer.specs.Inner.{Put}
use Rattle.writer.proofs.named.NamedMatrix.put_statements.Given as goal

abbrev pub invariant-loop-cell : goal.invariant-loop-cell
invariant-loop-cell l =
    (length l.buffer ≡ length l.initial.buffer)
    × Put l.self.n l.cell l.self.identifiers.now l.self.cells.now l.initial.buffer l.start l.buffer l.at
