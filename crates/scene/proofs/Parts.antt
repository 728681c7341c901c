-- The part of the scene that the code hands back is the refused record's own bytes.
use mathlib.Core.Path.{◌≡◌, refl, ◌∙◌}
use mathlib.Core.List.{List}
use Prim.Native.Nat.{ℕ, ◌+◌, ◌-◌}
use native.Mathlib.Omega.{arith}
use lib.ListN.{take, drop}
use Rattle.std.specs.Prelude.{Result, Ok, Err}
use Rattle.std.specs.declared.ops.Range.{Range}
use Rattle.answer.specs.Ending.{Ending}
use Rattle.filing.specs.Said.{Said}
use Rattle.filing.specs.Areas.{Areas, Lent}
use Rattle.scene.specs.Reading.{read_scene, read_of}
use Rattle.scene.specs.Reads.{Reads}
use Rattle.scene.specs.Span.{RefusedPart, span_start, span_length}
use Rattle.scene.specs.Inner.{Spans, ending_of}
use Rattle.scene.specs.declared.Unread.{Unread}
use Rattle.scene.specs.declared.Unread.TheVariants.{WrongLength, TooLong, Refused}
use Rattle.scene.proofs.Endings.{right-areas}
use Rattle.scene.proofs.Answers.{Tells, tells, right_lengths}

-- two endings with the same part of the scene
record SamePart (scene : List ℕ) (one other : Ending Said) : Type 0 where
  starts : span_start scene one ≡ span_start scene other
  counts : span_length scene one ≡ span_length scene other

module _ (scene : List ℕ) {areas : Areas} (lent : Lent areas) where
  same_part : (reading : Result ℕ Unread) → Tells reading (read_of scene areas) → SamePart scene (ending_of reading) (read_of scene areas)
  unfolding span_start span_length
  same_part (Ok count) t = rw t.is (record { starts = refl; counts = refl })
  same_part (Err WrongLength) t = absurd (right_lengths scene lent t)
  same_part (Err TooLong) t = rw t (record { starts = refl; counts = refl })
  same_part (Err (Refused refusal offset)) t = rw t (record { starts = refl; counts = refl })

  pub part_is : (reading : Result ℕ Unread) (after : Areas) (span : Range ℕ) (at-scene : ℕ × ℕ) → Reads scene areas after reading
      → Spans scene (ending_of reading) span
      → RefusedPart scene (read_scene scene) at-scene (take (span.end - span.start) (drop span.start scene))
      (at-scene.0, span.start + at-scene.1)
  part_is reading after span at-scene r s =
      let p = same_part reading (tells scene areas reading r.answer) in
      let begins : span.start ≡ span_start scene (read_of scene areas) = s.start ∙ p.starts in
      let long : span.end - span.start ≡ span_length scene (read_of scene areas) = omega (arith, s.start, s.end, p.counts) in
      rw (← right-areas scene lent) (record { bytes = rw (long, begins); itself = rw begins })
