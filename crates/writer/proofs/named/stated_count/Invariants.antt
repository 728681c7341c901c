-- The invariant of the loop of `writer::named::stated_count`: `stated` counts the cells that were passed.
use mathlib.Core.Path.{◌≡◌}
use Rattle.writer.specs.Scene.{stated_count}
use Rattle.writer.proofs.named.stated_count.Given as goal

abbrev pub invariant-loop-set : goal.invariant-loop-set
invariant-loop-set l = l.stated ≡ stated_count l.set-index l.cells
