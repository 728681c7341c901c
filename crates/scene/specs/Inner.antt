-- What the functions inside the crate need and promise; no public contract cites it.
use Rattle.std.specs.Prelude.{◌≡◌, List, ℕ, ◌+◌, ◌≤◌, Result, Ok, Err, OnOk, length}
use Rattle.std.specs.declared.ops.Range.{Range}
use Rattle.answer.specs.Ending.{Ending, answered}
use Rattle.filing.specs.Said.{Said, silent}
use Rattle.filing.specs.Areas.{Areas}
use Rattle.scene.specs.Format.{most_bytes}
use Rattle.scene.specs.Record.{Judged, declares, states, ends, fails}
use Rattle.scene.specs.Reading.{accepted_said, refused_at, read_scene}
use Rattle.scene.specs.Numbers.{number_of, answer_of}
use Rattle.scene.specs.Reads.{areas_after}
use Rattle.scene.specs.Span.{span_start, span_length}
use Rattle.scene.specs.declared.Unread.{Unread}
use Rattle.scene.specs.declared.Unread.TheVariants as unread
use Rattle.scene.specs.declared.record.Record.{Record}
use Rattle.scene.specs.declared.record.Record.TheVariants.{Region, Statement, End}
use Rattle.scene.specs.declared.record.Refused.{Refused}

-- a record of the code, or why there is none, in the words of the definitions
abbrev pub judged_of : Result Record Refused → Judged
judged_of (Ok (Region identifier)) = declares identifier.0
judged_of (Ok (Statement from to set)) = states from to set.0
judged_of (Ok End) = ends
judged_of (Err refused) = fails (number_of refused.refusal) refused.offset

-- a refused record as the answer of a reading
abbrev pub unread_of : Refused → Unread
unread_of refused = unread.Refused refused.refusal refused.offset

-- what reading into areas of the right lengths gives; a refusal leaves in them whatever was read before it
pub record ReadInto (scene : List ℕ) (before after : Areas) (reading : Result ℕ Unread) : Type 0 where
  pub answer : answer_of reading ≡ answered (read_scene scene)
  pub areas : OnOk reading (after ≡ areas_after (read_scene scene) before)

-- the ending that refuses the same record as a reading; areas of the wrong length refuse none
abbrev pub ending_of : Result ℕ Unread → Ending Said
ending_of (Ok regions) = accepted_said silent
ending_of (Err unread.WrongLength) = accepted_said silent
ending_of (Err unread.TooLong) = refused_at 3 most_bytes
ending_of (Err (unread.Refused refusal offset)) = refused_at (number_of refusal) offset

-- the refused record's bytes by their beginning and their end
pub record Spans (scene : List ℕ) (ending : Ending Said) (span : Range ℕ) : Type 0 where
  pub start : span.start ≡ span_start scene ending
  pub end : span.end ≡ span_start scene ending + span_length scene ending
  pub within : span.end ≤ length scene
