-- How a reading ends: within the limit the records decide; what an accepted reading takes; and the offset that a reading ended at.
use mathlib.Core.Path.{◌≡◌, refl, subst}
use mathlib.Core.Bool.{Bool, true, false, not}
use mathlib.Core.List.{List}
use Prim.Native.Nat.{ℕ, ◌≤◌, ◌<◌}
use native.Mathlib.Omega.{arith}
use lib.Dec.{ltb}
use lib.ListN.{length}
use borrow.Author.Tests.{lt-ltb, le-ltb, ltb-false, not-false}
use Rattle.answer.specs.Ending.{Ending, stop}
use Rattle.answer.proofs.Stops.{by_stop}
use Rattle.filing.specs.Said.{Said}
use Rattle.filing.specs.Areas.{Areas, Lent, are_lent}
use Rattle.filing.proofs.Lending.{are_lent_lem, lent_so}
use Rattle.scene.specs.Format.{most_bytes}
use Rattle.scene.specs.Record.{ends, fails, record_at}
use Rattle.scene.specs.Reading.{accepted_said, refused_at, records, read_scene, read_of}
use Rattle.scene.specs.Reached.{Reached}
use Rattle.scene.proofs.Reasons.{Reason, because}
use Rattle.scene.proofs.Reached.{Ended, at_end, at_refusal, ended}

-- a scene within the limit: what the records say
pub within_limit : (scene : List ℕ) → length scene ≤ most_bytes → read_scene scene ≡ records scene
unfolding read_scene
within_limit scene h = rw (le-ltb most_bytes (length scene) h)

-- and over it 3
pub over_limit : (scene : List ℕ) → most_bytes < length scene → read_scene scene ≡ refused_at 3 most_bytes
unfolding read_scene
over_limit scene h = rw (lt-ltb most_bytes (length scene) h)

-- areas of the right lengths: what the scene says
pub right-areas : (scene : List ℕ) {areas : Areas} → Lent areas → read_of scene areas ≡ read_scene scene
unfolding read_of
right-areas scene lent = rw (are_lent_lem lent)

-- and of others 2
pub wrong_areas : (scene : List ℕ) (areas : Areas) → are_lent areas ≡ false → read_of scene areas ≡ refused_at 2 0
unfolding read_of
wrong_areas scene areas e = rw e

-- what holds of 3 and of the records' ending holds of every scene's
pub scene_cases : (P : Ending Said → Type 0) (scene : List ℕ) → P (refused_at 3 most_bytes) → (length scene ≤ most_bytes → P (records scene))
    → P (read_scene scene)
unfolding read_scene
scene_cases P scene limit rest =
    by_stop P (ltb most_bytes (length scene)) (refused_at 3 most_bytes) (λ _. records scene) (λ e. limit)
    (λ e. rest (ltb-false most_bytes (length scene) e))

-- and where it holds of 2 as well, of every reading's
pub all_cases : (P : Ending Said → Type 0) (scene : List ℕ) (areas : Areas) → P (refused_at 2 0) → P (refused_at 3 most_bytes)
    → (length scene ≤ most_bytes → P (records scene)) → P (read_of scene areas)
unfolding read_of
all_cases P scene areas lengths limit rest =
    by_stop P (not (are_lent areas)) (refused_at 2 0) (λ _. read_scene scene) (λ e. lengths) (λ e. scene_cases P scene limit rest)

-- ---- what an acceptance takes

not_stopped : (number offset : ℕ) {said : Said} (b : Bool) (rest : Unit {0} → Ending Said)
    → stop b (refused_at number offset) rest ≡ accepted_said said → (b ≡ false) × (rest tt ≡ accepted_said said)
not_stopped number offset true rest e = let z : ◌≡◌ {A = ℕ} 0 1 = cc in absurd (omega arith)
not_stopped number offset false rest e = (refl, e)

-- areas of the right lengths, and a scene that is accepted whatever it is read into
module _ (scene : List ℕ) (areas : Areas) {said : Said} (e : read_of scene areas ≡ accepted_said said) where
  pub accepted-lent : Lent areas
  unfolding read_of
  accepted-lent = lent_so areas (not-false (are_lent areas) (not_stopped 2 0 (not (are_lent areas)) (λ _. read_scene scene) e).0)

  pub accepted_scene : read_scene scene ≡ accepted_said said
  unfolding read_of
  accepted_scene = (not_stopped 2 0 (not (are_lent areas)) (λ _. read_scene scene) e).1

-- a scene within the limit, whose records are accepted
module _ (scene : List ℕ) {said : Said} (e : read_scene scene ≡ accepted_said said) where
  pub accepted-short : length scene ≤ most_bytes
  unfolding read_scene
  accepted-short =
      ltb-false most_bytes (length scene) (not_stopped 3 most_bytes (ltb most_bytes (length scene)) (λ _. records scene) e).0

  pub accepted-records : records scene ≡ accepted_said said
  unfolding read_scene
  accepted-records = (not_stopped 3 most_bytes (ltb most_bytes (length scene)) (λ _. records scene) e).1

-- ---- where a reading ended

-- the records of an accepted scene reached an end
pub record Finished (scene : List ℕ) (said : Said) : Type 0 where
  pub at : ℕ
  pub reached : Reached scene at said
  pub end-there : record_at scene said at ≡ ends

pub finished : (scene : List ℕ) {said : Said} → records scene ≡ accepted_said said → Finished scene said
finished scene {said} e = by_end (ended scene) e
  where
    by_end : {ending : Ending Said} → Ended scene ending → ending ≡ accepted_said said → Finished scene said
    by_end (at_end at other r q) e =
        let same : other ≡ said = cc in
        subst (λ (s : Said). Finished scene s) same (record { at = at; reached = r; end-there = q })
    by_end (at_refusal at other number offset r q) e = let z : ◌≡◌ {A = ℕ} 0 1 = cc in absurd (omega arith)

-- and those of a refused one reached the refused record
pub record Stopped (scene : List ℕ) (number offset : ℕ) : Type 0 where
  pub at : ℕ
  pub said : Said
  pub reached : Reached scene at said
  pub why_there : Reason scene said at (fails number offset)

pub stopped : (scene : List ℕ) {number offset : ℕ} → records scene ≡ refused_at number offset → Stopped scene number offset
stopped scene {number} {offset} e = by_refusal (subst (λ (o : Ending Said). Ended scene o) e (ended scene))
  where
    by_refusal : {number offset : ℕ} → Ended scene (refused_at number offset) → Stopped scene number offset
    by_refusal (at_refusal at said number offset r q) =
        record { at = at; said = said; reached = r; why_there = because scene said at q }
