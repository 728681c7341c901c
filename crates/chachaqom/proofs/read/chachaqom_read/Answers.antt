-- `chachaqom::read::chachaqom_read` meets its contract: by the lengths of the answer, of the identifiers and of the marks, and else by
-- what the reading left.
use native.Mathlib.Omega.{arith}
use Rattle.chachaqom.proofs.Promised.{read_no_identifiers, read_no_marks, read_answered}
use Rattle.chachaqom.proofs.read.chachaqom_read.Goals as goal
use Rattle.chachaqom.proofs.read.chachaqom_read.Goals.{then-identifiers-ne256-via-then-identifiers-ne256, then-identifiers-ne256-via-else-identifiers-ne256+then-marks-ne8192}

pub returns-then-identifiers-ne256 : goal.returns-then-identifiers-ne256
returns-then-identifiers-ne256 c =
    elim c.then-identifiers-ne256.branch [
      | then-identifiers-ne256-via-then-identifiers-ne256 w ↦
          read_no_identifiers c.if-answer-ne20.false (λ e. omega arith) c.of_reading.ensures c.put_answer.ensures
      | then-identifiers-ne256-via-else-identifiers-ne256+then-marks-ne8192 w ↦
          read_no_marks c.if-answer-ne20.false (λ e. omega arith) c.of_reading.ensures c.put_answer.ensures
    ]

pub returns : goal.returns
returns c =
    read_answered c.if-answer-ne20.false (omega arith) (omega arith) c.read-reading.ensures c.hand_over.ensures
    c.of_reading-2.ensures c.put_answer-2.ensures
