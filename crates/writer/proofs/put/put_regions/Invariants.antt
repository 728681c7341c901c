-- The invariant of the loop of `writer::put::put_regions`: the records of the places before `place` are put.
use mathlib.Core.Path.{◌≡◌}
use lib.ListN.{length, take}
use lib.Seq.{sets}
use Rattle.writer.specs.Scene.{region_records}
use Rattle.writer.proofs.put.put_regions.Given as goal

abbrev pub invariant-loop-place : goal.invariant-loop-place
invariant-loop-place l =
    (length l.buffer ≡ length l.initial.buffer)
    × (l.buffer ≡ sets l.initial.buffer 0 (region_records (take l.place l.identifiers)))
