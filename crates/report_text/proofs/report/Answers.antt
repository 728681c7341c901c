-- `report_text::report` meets its contract: what is put is the report of the reading, and the buffer has room for it.
use native.Mathlib.Omega.{arith}
use native.Mathlib.Nat.{mul-le-mul}
use mathlib.Core.Path.{refl}
use Rattle.report_text.proofs.Readings.{accepted_read, accepted_reported, unread_reported, told_line}
use Rattle.report_text.proofs.report.Goals.{in-Ok, in-Err}
use Rattle.report_text.proofs.report.Goals as goal

pub in_front-requires : goal.in_front-requires
in_front-requires c =
    let read = accepted_read c.read.ensures c.in-Ok.is in
    let few = mul-le-mul read.few read.few in
    record { some = read.some; few = read.few; cells_long = omega (arith, few, c.read.auto.cells); marks_long = omega (arith, few, c.read.auto.marks) }

pub returns : goal.returns
returns c =
    elim c.match-read.branch [
      | in-Ok w ↦
          rw w.page-is
          (accepted_reported (accepted_read c.read.ensures w.in-Ok.is) w.in_front.ensures
          (record { beginning = refl; long = omega arith }) w.put_refined.ensures)
      | in-Err w ↦
          rw w.page-is
          (unread_reported w.in-Err.unread (rw w.in-Err.is at c.read.ensures) (record { beginning = refl; long = omega arith })
          (told_line w.of_reading.ensures w.put_refusal.ensures))
    ]
