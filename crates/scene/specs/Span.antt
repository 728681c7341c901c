-- The refused record's own bytes, as a part of the scene.
use Rattle.std.specs.Prelude.{◌≡◌, ℕ, ◌+◌, ◌-◌, min, Bool, cond, ◌||◌, List, length, get_or, take, drop, leb, eqb}
use Rattle.answer.specs.Answer.{Answer}
use Rattle.answer.specs.Ending.{Ending, accepted, refused}
use Rattle.filing.specs.Said.{Said}
use Rattle.scene.specs.Format.{length_of}

-- a refusal of no record: the scene is over the limit, or ends where one should begin
abbrev pub no_record : List ℕ → Answer → Bool
no_record scene numbers = eqb numbers.number 3 || leb (length scene) numbers.first

-- where the part begins: the refused record; the scene's own beginning where there is none
unfoldable pub span_start : List ℕ → Ending Said → ℕ
span_start scene (accepted said count) = 0
span_start scene (refused numbers) = cond (no_record scene numbers) 0 numbers.first

-- how many bytes: the record's full length or what remains of it; everything left for 11; none where there is no record
unfoldable pub span_length : List ℕ → Ending Said → ℕ
span_length scene (accepted said count) = 0
span_length scene (refused numbers) =
    cond (no_record scene numbers) 0
    (cond (eqb numbers.number 11) (length scene - numbers.first)
    (min (length_of (get_or scene numbers.first 0)) (length scene - numbers.first)))

-- what `refused_record` promises: the part's bytes, and that it lies in the scene itself
pub record RefusedPart (scene : List ℕ) (ending : Ending Said) (atScene : ℕ × ℕ) (part : List ℕ) (atPart : ℕ × ℕ) : Type 0 where
  pub bytes : part ≡ take (span_length scene ending) (drop (span_start scene ending) scene)
  pub itself : atPart ≡ (atScene.0, span_start scene ending + atScene.1)
