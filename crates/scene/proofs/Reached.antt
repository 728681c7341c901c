-- A reading ends where a reached record ends or refuses it, and nowhere else.
use mathlib.Core.Path.{◌≡◌, refl, sym, ap, ◌∙◌}
use mathlib.Core.List.{List, [], ◌∷◌}
use Prim.Native.Nat.{ℕ, zero, suc, ◌+◌, ◌*◌, ◌≤◌, ◌<◌}
use native.Mathlib.Omega.{arith}
use lib.ListN.{length, length-append}
use Rattle.matrix.specs.Square.{most_regions}
use Rattle.answer.specs.Ending.{Ending}
use Rattle.filing.specs.Said.{Said, regions, silent, declared, stated}
use Rattle.scene.specs.Format.{region_kind, statement_kind, length_of}
use Rattle.scene.specs.Record.{Judged, declares, states, ends, fails, record_at}
use Rattle.scene.specs.Reading.{accepted_said, refused_at, follows, read_from, records}
use Rattle.scene.specs.Reached.{Reached, start, region, statement}
use Rattle.scene.proofs.Reasons.{no_byte, decides, some-length, declares_why, states_why}

-- a reached record ends the reading
pub data Ended (scene : List ℕ) : Ending Said → Type 0 where
  at_end : (at : ℕ) (said : Said) → Reached scene at said → record_at scene said at ≡ ends → Ended scene (accepted_said said)
  at_refusal : (at : ℕ) (said : Said) (number offset : ℕ) → Reached scene at said
      → record_at scene said at ≡ fails number offset → Ended scene (refused_at number offset)

module _ (scene : List ℕ) where
  pub reached_within : {at : ℕ} {said : Said} → Reached scene at said → at ≤ length scene
  reached_within start = omega arith
  reached_within (region {at} {said} name r e) = (declares_why scene said at e).region.whole.fits
  reached_within (statement {at} {said} a b set r e) = (states_why scene said at e).whole.fits

  -- the records before an offset are so many bytes
  pub reached_far : {at : ℕ} {said : Said} → Reached scene at said → at ≡ 5 * regions said + 10 * length said.statements
  unfolding length_of
  reached_far start = refl
  reached_far (region {at} {said} name r e) = omega (arith, reached_far r, length-append said.identifiers (name ∷ []))
  reached_far (statement {at} {said} a b set r e) = omega (arith, reached_far r)

  pub reached_few : {at : ℕ} {said : Said} → Reached scene at said → regions said ≤ most_regions
  reached_few start = omega arith
  reached_few (region {at} {said} name r e) =
      omega (arith, length-append said.identifiers (name ∷ []), (declares_why scene said at e).room)
  reached_few (statement a b set r e) = reached_few r

  -- what follows a record is the same where the readings of all later offsets are
  follows_same : (f g : ℕ → Said → Ending Said) (at : ℕ) (said : Said) (j : Judged) → ((k : ℕ) (s : Said) → at < k → f k s ≡ g k s)
      → follows f at said j ≡ follows g at said j
  follows_same f g at said (declares name) same =
      same (at + length_of region_kind) (declared said name) (omega (arith, some-length region_kind))
  follows_same f g at said (states a b set) same =
      same (at + length_of statement_kind) (stated said a b set) (omega (arith, some-length statement_kind))
  follows_same f g at said ends same = refl
  follows_same f g at said (fails number offset) same = refl

  -- the limit on records is never what ends a reading: any two that are large enough give the same
  pub enough_records : (more most at : ℕ) (said : Said) → length scene < more + at → length scene < most + at
      → read_from more scene at said ≡ read_from most scene at said
  unfolding read_from
  enough_records zero zero at said h k = refl
  enough_records zero (suc most) at said h k = rw (decides scene said at (no_byte (omega arith)))
  enough_records (suc more) zero at said h k = rw (decides scene said at (no_byte (omega arith)))
  enough_records (suc more) (suc most) at said h k =
      follows_same (read_from more scene) (read_from most scene) at said (record_at scene said at)
      (λ next then l. enough_records more most next then (omega arith) (omega arith))

  -- so no larger limit than that of the definition gives another ending
  pub any_limit : (more : ℕ) → length scene < more → read_from more scene 0 silent ≡ records scene
  any_limit more h = enough_records more (suc (length scene)) 0 silent (omega arith) (omega arith)

  -- a record is read, and then what follows it
  one_read : (more at : ℕ) (said : Said) (j : Judged) → record_at scene said at ≡ j
      → read_from (suc more) scene at said ≡ follows (read_from more scene) at said j
  unfolding read_from
  one_read more at said j e = ap (λ (k : Judged). follows (read_from more scene) at said k) e

  -- reading on from a reached offset gives the ending of the whole
  reads_on : {at : ℕ} {said : Said} → Reached scene at said → (more : ℕ) → length scene < more + at
      → read_from more scene at said ≡ records scene
  reads_on start more h = any_limit more (omega arith)
  reads_on (region {at} {said} name r e) more h =
      let before : ℕ = more + length_of region_kind in
      enough_records more before (at + length_of region_kind) (declared said name) h (omega arith)
      ∙ sym (one_read before at said (declares name) e)
      ∙ reads_on r (suc before) (omega arith)
  reads_on (statement {at} {said} a b set r e) more h =
      let before : ℕ = more + length_of statement_kind in
      enough_records more before (at + length_of statement_kind) (stated said a b set) h (omega arith)
      ∙ sym (one_read before at said (states a b set) e)
      ∙ reads_on r (suc before) (omega arith)

  ends_as : {at : ℕ} {said : Said} {j : Judged} → Reached scene at said → record_at scene said at ≡ j
      → records scene ≡ follows (read_from (suc (length scene)) scene) at said j
  ends_as {at} {said} {j} r e =
      sym (reads_on r (suc (suc (length scene))) (omega arith)) ∙ one_read (suc (length scene)) at said j e

  -- where a reached record ends or refuses the reading, the scene is read so
  pub ended_so : {ending : Ending Said} → Ended scene ending → records scene ≡ ending
  ended_so (at_end at said r e) = ends_as r e
  ended_so (at_refusal at said number offset r e) = ends_as r e

  ended_from : (more at : ℕ) (said : Said) → Reached scene at said → length scene < more + at → Ended scene (read_from more scene at said)
  unfolding read_from
  ended_from zero at said r h = absurd (omega (arith, reached_within r))
  ended_from (suc more) at said r h =
      by_record (record_at scene said at) refl (λ next then q l. ended_from more next then q (omega arith))
    where
      by_record : (j : Judged) → record_at scene said at ≡ j
          → ((next : ℕ) (then : Said) → Reached scene next then → at < next → Ended scene (read_from more scene next then))
          → Ended scene (follows (read_from more scene) at said j)
      by_record (declares name) e later =
          later (at + length_of region_kind) (declared said name) (region name r e) (omega (arith, some-length region_kind))
      by_record (states a b set) e later =
          later (at + length_of statement_kind) (stated said a b set) (statement a b set r e) (omega (arith, some-length statement_kind))
      by_record ends e later = at_end at said r e
      by_record (fails number offset) e later = at_refusal at said number offset r e

  -- and every reading ends so
  pub ended : Ended scene (records scene)
  ended = ended_from (suc (length scene)) 0 silent start (omega arith)
