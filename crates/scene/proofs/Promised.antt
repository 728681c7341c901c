-- How the reading of a scene ends: what the code leaves is what `read` promises.
use Rattle.std.proofs.Common.{◌≡◌, refl, sym, ap, ◌∙◌, true, false, List, ℕ, ◌≤◌, ◌<◌, length, take, Result, Ok, Err, is_err}
use Rattle.std.specs.Prelude.{OnErr}
use Rattle.answer.specs.Ending.{Ending, answered}
use Rattle.filing.specs.Said.{Said, naming}
use Rattle.filing.specs.Areas.{Areas, holding, Lent, are_lent, emptied, packed}
use Rattle.filing.proofs.Lending.{started-same}
use Rattle.filing.proofs.Held.{held_ends}
use Rattle.scene.specs.Format.{most_bytes}
use Rattle.scene.specs.Record.{record_at}
use Rattle.scene.specs.Reading.{accepted_said, refused_at, records, read_scene, read_of}
use Rattle.scene.specs.Numbers.{number_of, answer_of}
use Rattle.scene.specs.Reads.{Reads, areas_after}
use Rattle.scene.specs.Inner.{ReadInto, judged_of, unread_of}
use Rattle.scene.specs.declared.Unread.{Unread}
use Rattle.scene.specs.declared.Unread.TheVariants.{WrongLength, TooLong, Refused as RefusedAt}
use Rattle.scene.specs.declared.record.Record.{Record}
use Rattle.scene.specs.declared.record.Record.TheVariants as recorded
use Rattle.scene.specs.declared.record.Refused.{Refused}
use Rattle.scene.proofs.Numbered.{numbered, is_no_length}
use Rattle.scene.proofs.Endings.{within_limit, over_limit, right-areas, wrong_areas}
use Rattle.scene.proofs.Answers.{Tells, tells, right_lengths}
use Rattle.scene.proofs.Going.{Going, going_ends, going_refused, going_lent}

module _ {scene : List ℕ} {areas before : Areas} {at count statements : ℕ} (lent : Lent before) (short : length scene ≤ most_bytes)
    (w : Going scene areas at count statements) {entries : List ℕ} (same : entries ≡ areas.identifiers) {r : Result Record Refused}
    (judged : judged_of r ≡ record_at scene (naming (take count entries)) at) where
  pub ends_into : {cells' marks' : List ℕ} → r ≡ Ok recorded.End → cells' ≡ packed 0 count areas.cells
      → marks' ≡ packed 0 count areas.marks → ReadInto scene before (holding areas.identifiers cells' marks') (Ok count)
  unfolding areas_after
  ends_into d e m =
      let o : read_scene scene ≡ accepted_said w.said = within_limit scene short ∙ going_ends w same judged d in
      record { answer = rw (o, w.counted); areas = rw o (rw (e, m, w.counted) (held_ends w.held before lent)) }

  pub refused_into : {refused : Refused} {after : Areas} → r ≡ Err refused → ReadInto scene before after (Err (unread_of refused))
  refused_into {refused} d =
      let o : read_scene scene ≡ refused_at (number_of refused.refusal) refused.offset = within_limit scene short ∙ going_refused w same judged d in
      record { answer = rw o; areas = tt }

-- 2: areas as they were
pub wrong_length : (scene : List ℕ) (areas : Areas) → are_lent areas ≡ false → Reads scene areas areas (Err WrongLength)
unfolding areas_after
wrong_length scene areas e = record { answer = rw (wrong_areas scene areas e); areas = rw (wrong_areas scene areas e) }

-- areas of the right lengths: an acceptance as it was read, and a refusal with all areas cleared
module _ {scene : List ℕ} {before after : Areas} (lent : Lent before) where
  pub accepted_reads : (reading : Result ℕ Unread) → is_err reading ≡ false → ReadInto scene before after reading
      → Reads scene before after reading
  accepted_reads (Ok n) h r = record { answer = rw (right-areas scene lent) r.answer; areas = rw (right-areas scene lent) r.areas }
  accepted_reads (Err e) h r = cc

  pub cleared_reads : (reading : Result ℕ Unread) → is_err reading ≡ true → {between : Areas} → ReadInto scene before between reading
      → OnErr reading (Lent between) → after ≡ emptied between → Reads scene before after reading
  unfolding areas_after
  cleared_reads (Ok n) h r l e = cc
  cleared_reads (Err u) h {between} r l e =
      let answer = r.answer ∙ ap answered (sym (right-areas scene lent)) in
      let cleared : after ≡ emptied before = e ∙ started-same 0 l lent in
      record { answer = answer; areas = cleared ∙ sym (emptied_so u (tells scene before (Err u) answer)) }
    where
      emptied_so : (u : Unread) → Tells (Err u) (read_of scene before) → areas_after (read_of scene before) before ≡ emptied before
      emptied_so WrongLength t = absurd (right_lengths scene lent t)
      emptied_so TooLong t = rw t
      emptied_so (RefusedAt refusal offset) t = rw (t, is_no_length (numbered refusal))

-- where the ending is known, so is what was promised
reads_to : {scene : List ℕ} {before after : Areas} {reading : Result ℕ Unread} (ending : Ending Said) → read_of scene before ≡ ending
    → answer_of reading ≡ answered ending → after ≡ areas_after ending before → Reads scene before after reading
reads_to ending o a l = record { answer = rw o a; areas = rw o l }

-- 3: areas all 0
pub too_long : {scene : List ℕ} {before after : Areas} → Lent before → most_bytes < length scene → after ≡ emptied before
    → Reads scene before after (Err TooLong)
unfolding areas_after
too_long {scene} lent h e = reads_to (refused_at 3 most_bytes) (right-areas scene lent ∙ over_limit scene h) refl e

-- areas of the right lengths, and a scene within the limit
pub record Readable (scene : List ℕ) (areas : Areas) : Type 0 where
  pub lent : Lent areas
  pub scene_short : length scene ≤ most_bytes

-- then the records decide
records_decide : {scene : List ℕ} {areas : Areas} → Readable scene areas → read_of scene areas ≡ records scene
records_decide {scene} lent = right-areas scene lent.lent ∙ within_limit scene lent.scene_short

module _ {scene : List ℕ} {areas before : Areas} {at count statements : ℕ} (lent : Readable scene before)
    (w : Going scene areas at count statements) {r : Result Record Refused}
    (judged : judged_of r ≡ record_at scene (naming (take count areas.identifiers)) at) where
  pub ends_reads : {cells' marks' : List ℕ} → r ≡ Ok recorded.End → cells' ≡ packed 0 count areas.cells
      → marks' ≡ packed 0 count areas.marks → Reads scene before (holding areas.identifiers cells' marks') (Ok count)
  unfolding areas_after
  ends_reads d e m =
      reads_to (accepted_said w.said) (records_decide lent ∙ going_ends w refl judged d) (rw w.counted)
      (rw (e, m, w.counted) (held_ends w.held before lent.lent))

  pub refused_reads : {refused : Refused} {after : Areas} → r ≡ Err refused → after ≡ emptied areas
      → Reads scene before after (Err (unread_of refused))
  unfolding areas_after
  refused_reads {refused} d e =
      reads_to (refused_at (number_of refused.refusal) refused.offset) (records_decide lent ∙ going_refused w refl judged d) refl
      (rw (is_no_length (numbered refused.refusal)) (e ∙ started-same 0 (going_lent w) lent.lent))

-- whoever lent the areas sees what they hold
pub reads_as : {scene : List ℕ} {before after lent : Areas} {reading : Result ℕ Unread} → lent ≡ after
    → Reads scene before after reading → Reads scene before lent reading
reads_as e r = rw e r
