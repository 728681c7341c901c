-- The bytes of a refused record, case by case.
use mathlib.Core.Path.{◌≡◌, refl}
use mathlib.Core.List.{List}
use Prim.Native.Nat.{ℕ, ◌+◌, ◌-◌, ◌≤◌, ◌<◌, min}
use native.Mathlib.Omega.{arith}
use lib.ListN.{length, get_or}
use borrow.Author.Tests.{le-leb, lt-leb, eq-eqb, ne_eqb}
use Rattle.scene.specs.Format.{length_of}
use Rattle.filing.specs.Said.{silent}
use Rattle.scene.specs.Reading.{accepted_said, refused_at}
use Rattle.scene.specs.Span.{span_start, span_length}
use Rattle.scene.specs.Inner.{Spans}
use Rattle.scene.proofs.Numbered.{Numbered, is_no_limit}

-- where no record is refused, no byte
pub accepted_spans : (scene : List ℕ) → Spans scene (accepted_said silent) (record { start = 0; end = 0 })
unfolding span_start span_length
accepted_spans scene = record { start = refl; end = refl; within = omega arith }

pub limit_spans : (scene : List ℕ) (offset : ℕ) → Spans scene (refused_at 3 offset) (record { start = 0; end = 0 })
unfolding span_start span_length
limit_spans scene offset = record { start = refl; end = refl; within = omega arith }

module _ (scene : List ℕ) (number offset : ℕ) (n : Numbered number) where
  -- no byte of it is there
  pub none_spans : length scene ≤ offset → Spans scene (refused_at number offset) (record { start = 0; end = 0 })
  unfolding span_start span_length
  none_spans h =
      record {
        start = rw (is_no_limit n, le-leb (length scene) offset h);
        end = rw (is_no_limit n, le-leb (length scene) offset h);
        within = omega arith;
      }

  -- everything left for 11
  pub rest_spans : offset < length scene → number ≡ 11 → Spans scene (refused_at number offset) (record { start = offset; end = length scene })
  unfolding span_start span_length
  rest_spans h e =
      record {
        start = rw (is_no_limit n, lt-leb (length scene) offset h);
        end = rw (is_no_limit n, lt-leb (length scene) offset h, eq-eqb number 11 e) (omega arith);
        within = omega arith;
      }

  module _ (h : offset < length scene) (d : number ≡ 11 → ⊥) where
    spans_to : (end : ℕ) → end ≡ offset + min (length_of (get_or scene offset 0)) (length scene - offset)
        → Spans scene (refused_at number offset) (record { start = offset; end = end })
    unfolding span_start span_length
    spans_to end e =
        record {
          start = rw (is_no_limit n, lt-leb (length scene) offset h);
          end = rw (is_no_limit n, lt-leb (length scene) offset h, ne_eqb number 11 d) e;
          within = omega arith;
        }

    -- what remains of a record
    pub cut_spans : (long : ℕ) → long ≡ length_of (get_or scene offset 0) → length scene - offset < long
        → Spans scene (refused_at number offset) (record { start = offset; end = length scene })
    cut_spans long e l = spans_to (length scene) (omega arith)

    -- its full length
    pub whole_spans : (long : ℕ) → long ≡ length_of (get_or scene offset 0) → long ≤ length scene - offset
        → Spans scene (refused_at number offset) (record { start = offset; end = offset + long })
    whole_spans long e l = spans_to (offset + long) (omega arith)
