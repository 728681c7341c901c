-- How a write ends, check by check: each refusal, and what is written.
use mathlib.Core.Path.{◌≡◌, refl, sym, ap, ◌∙◌}
use mathlib.Core.Bool.{true, false}
use mathlib.Core.List.{List}
use Prim.Native.Nat.{ℕ, ◌+◌, ◌*◌, ◌≤◌, ◌<◌}
use native.Mathlib.Nat.{zero-add}
use native.Mathlib.Omega.{arith}
use borrow.Author.Tests.{lt-ltb, le-ltb, eq-eqb, ne_eqb}
use lib.Dec.{eqb, ltb}
use lib.ListN.{length, get_or}
use lib.Seq.{sets, sets-eq, take-length}
use Rattle.std.specs.Prelude.{Some, None, Result, Ok}
use Rattle.std.specs.List.{position}
use Rattle.lists.specs.Least.{found_below}
use Rattle.lists.proofs.Found.{found_some, found_none}
use Rattle.matrix.proofs.Searches.{empty_found, none_found}
use Rattle.matrix.specs.Square.{in_range}
use Rattle.matrix.specs.Cells.{row, column, first_empty}
use Rattle.matrix.proofs.CellLaws.{in_range_lem, range_holds, has-square, no_square}
use Rattle.lists.proofs.Splits.{by_test, split_lt, split_eq}
use Rattle.lists.specs.Laid.{laid}
use Rattle.answer.specs.Answer.{Answer, refuses}
use Rattle.answer.specs.Ending.{refused, stop}
use Rattle.scene.specs.Format.{most_bytes}
use Rattle.writer.specs.Scene.{scene_of, stated_count}
use Rattle.writer.specs.Writing.{written, refused_with, refused_region, refused_cell, first_bad, checked, write_of}
use Rattle.writer.specs.Numbers.{answer_of}
use Rattle.writer.specs.Writes.{buffer_after, Writes}
use Rattle.writer.specs.Writable.{Sized, Writable}
use Rattle.writer.specs.declared.Unwritten.{Unwritten}
use Rattle.writer.proofs.SceneLaws.{length_sized}

-- what the first checks ask
pub sized_by : (n : ℕ) (identifiers cells : List ℕ) → in_range n ≡ true → length identifiers ≡ n → length cells ≡ n * n → Sized n identifiers cells
sized_by n identifiers cells range regions size =
    let holds = range_holds n range in
    record { square = record { some = holds.0; few = holds.1; size = size }; regions = regions }

-- what the checks compute of lists that have the right lengths
module _ (n : ℕ) (identifiers cells : List ℕ) (sized : Sized n identifiers cells) (r : ℕ) where
  pub bad_found : r ≡ first_bad (length identifiers) identifiers → r ≡ first_bad n identifiers
  bad_found e = e ∙ ap (λ (k : ℕ). first_bad k identifiers) sized.regions

  pub empty-found : r ≡ first_empty (length cells) cells → r ≡ first_empty (n * n) cells
  empty-found e = e ∙ ap (λ (k : ℕ). first_empty k cells) sized.square.size

  pub length_found : r ≡ 5 * n + 10 * stated_count (length cells) cells + 1 → r ≡ length (scene_of n identifiers cells)
  length_found e = e ∙ sym (length_sized n identifiers cells sized)

-- and what the searches answer of them
module _ (n : ℕ) (identifiers cells : List ℕ) (sized : Sized n identifiers cells) where
  pub bad_at : {p : ℕ} → Some p ≡ found_below (length identifiers) (first_bad (length identifiers) identifiers)
      → (p ≡ first_bad n identifiers) × (p < n)
  bad_at e =
      let h = found_some (length identifiers) (first_bad (length identifiers) identifiers) e in
      (bad_found n identifiers cells sized _ h.0, omega (arith, h.0, h.1, sized.regions))

  pub none_bad : None ≡ found_below (length identifiers) (first_bad (length identifiers) identifiers) → n ≤ first_bad n identifiers
  none_bad e = rw sized.regions at (found_none (length identifiers) (first_bad (length identifiers) identifiers) e)

  pub empty_at : {p : ℕ} → Some p ≡ position (λ cell. eqb cell 0) cells → (p ≡ first_empty (n * n) cells) × (p < n * n)
  empty_at e =
      let h = empty_found cells e in
      (empty-found n identifiers cells sized _ h.0, omega (arith, h.0, h.1, sized.square.size))

  pub none_empty : None ≡ position (λ cell. eqb cell 0) cells → n * n ≤ first_empty (n * n) cells
  none_empty e = rw sized.square.size at (none_found cells e)

module _ (n : ℕ) (identifiers cells : List ℕ) (room : ℕ) where
  pub out_of_range : in_range n ≡ false → write_of n identifiers cells room ≡ refused_with 1
  unfolding write_of
  out_of_range e = rw e

  module _ (range : in_range n ≡ true) where
    pub other-regions : (length identifiers ≡ n → ⊥) → write_of n identifiers cells room ≡ refused_with 2
    unfolding write_of
    other-regions h = rw (range, ne_eqb (length identifiers) n h)

    pub other-cells : length identifiers ≡ n → (length cells ≡ n * n → ⊥) → write_of n identifiers cells room ≡ refused_with 2
    unfolding write_of
    other-cells e h = rw (range, eq-eqb (length identifiers) n e, no_square n cells h)

  module _ (sized : Sized n identifiers cells) where
    is-checked : write_of n identifiers cells room ≡ checked n identifiers cells room
    unfolding write_of
    is-checked =
        rw (
          in_range_lem n sized.square.some sized.square.few,
          eq-eqb (length identifiers) n sized.regions,
          has-square n cells sized.square.size,
        )

    pub zero_refused : (p : ℕ) → p ≡ first_bad n identifiers → p < n → get_or identifiers p 0 ≡ 0
        → write_of n identifiers cells room ≡ refused_region 6 p
    unfolding checked
    zero_refused p e l z = rw (is-checked, ← e, lt-ltb p n l, eq-eqb (get_or identifiers p 0) 0 z)

    pub twice_refused : (p : ℕ) → p ≡ first_bad n identifiers → p < n → (get_or identifiers p 0 ≡ 0 → ⊥)
        → write_of n identifiers cells room ≡ refused_region 7 p
    unfolding checked
    twice_refused p e l z = rw (is-checked, ← e, lt-ltb p n l, ne_eqb (get_or identifiers p 0) 0 z)

    module _ (good : n ≤ first_bad n identifiers) where
      pub empty_refused : (p : ℕ) → p ≡ first_empty (n * n) cells → p < n * n
          → write_of n identifiers cells room ≡ refused_cell 10 (row n p) (column n p)
      unfolding checked
      empty_refused p e l = rw (is-checked, le-ltb (first_bad n identifiers) n good, ← e, lt-ltb p (n * n) l)

      pub long_refused : n * n ≤ first_empty (n * n) cells → most_bytes < length (scene_of n identifiers cells)
          → write_of n identifiers cells room ≡ refused (refuses 3 most_bytes)
      unfolding checked
      long_refused f l =
          rw (
            is-checked,
            le-ltb (first_bad n identifiers) n good,
            le-ltb (first_empty (n * n) cells) (n * n) f,
            lt-ltb most_bytes (length (scene_of n identifiers cells)) l,
          )

  module _ (w : Writable n identifiers cells) where
    room_asked : write_of n identifiers cells room
        ≡ stop (ltb room (length (scene_of n identifiers cells))) (refused_with 12) (λ _. written (scene_of n identifiers cells))
    unfolding checked
    room_asked =
        rw (
          is-checked w.sized,
          le-ltb (first_bad n identifiers) n w.good,
          le-ltb (first_empty (n * n) cells) (n * n) w.full,
          le-ltb most_bytes (length (scene_of n identifiers cells)) w.short,
        )

    pub no_room : room < length (scene_of n identifiers cells) → write_of n identifiers cells room ≡ refused_with 12
    no_room l = rw (room_asked, lt-ltb room (length (scene_of n identifiers cells)) l)

    -- what may be written and has room is written
    pub is-written : length (scene_of n identifiers cells) ≤ room → write_of n identifiers cells room ≡ written (scene_of n identifiers cells)
    is-written l = rw (room_asked, le-ltb room (length (scene_of n identifiers cells)) l)

  -- there is no other way: what may be written is written where it has room, and all else is refused with a number
  module _ (C : Type 0) (goes : Writable n identifiers cells → length (scene_of n identifiers cells) ≤ room → C)
      (stops : (numbers : Answer) → (numbers.number ≡ 0 → ⊥) → write_of n identifiers cells room ≡ refused numbers → C) where
    sized_ways : Sized n identifiers cells → C
    sized_ways sized =
        let p : ℕ = first_bad n identifiers in
        split_lt p n
        (λ l. split_eq (get_or identifiers p 0) 0
        (λ z. stops (refuses 6 p) (λ e. omega arith) (zero_refused sized p refl l z))
        (λ z. stops (refuses 7 p) (λ e. omega arith) (twice_refused sized p refl l z)))
        (λ good. split_lt (first_empty (n * n) cells) (n * n)
        (λ l. stops _ (λ e. omega arith) (empty_refused sized good (first_empty (n * n) cells) refl l))
        (λ full. split_lt most_bytes (length (scene_of n identifiers cells))
        (λ l. stops (refuses 3 most_bytes) (λ e. omega arith) (long_refused sized good full l))
        (λ short.
        let w : Writable n identifiers cells = record { sized = sized; good = good; full = full; short = short } in
        split_lt room (length (scene_of n identifiers cells)) (λ l. stops (refuses 12 0) (λ e. omega arith) (no_room w l))
        (λ l. goes w l))))

    pub written_or_refused : C
    written_or_refused =
        by_test (in_range n)
        (λ range. split_eq (length identifiers) n
        (λ regions. split_eq (length cells) (n * n)
        (λ size.
        let from_one = range_holds n range in
        sized_ways (record { square = record { some = from_one.0; few = from_one.1; size = size }; regions = regions }))
        (λ h. stops (refuses 2 0) (λ e. omega arith) (other-cells range regions h)))
        (λ h. stops (refuses 2 0) (λ e. omega arith) (other-regions range h)))
        (λ e. stops (refuses 1 0) (λ e. omega arith) (out_of_range e))

-- ---- what the call promises of such an end

-- a scene that was written, and where
pub record IsWritten (n : ℕ) (identifiers cells before after : List ℕ) (count : ℕ) : Type 0 where
  pub writable : Writable n identifiers cells
  pub fits : length (scene_of n identifiers cells) ≤ length before
  pub bytes : count ≡ length (scene_of n identifiers cells)
  pub buffer : after ≡ laid (length (scene_of n identifiers cells)) (scene_of n identifiers cells) before

module _ (n : ℕ) (identifiers cells buffer : List ℕ) where
  pub is_refused : (writing : Result ℕ Unwritten) (numbers : Answer) → write_of n identifiers cells (length buffer) ≡ refused numbers
      → answer_of writing ≡ numbers → Writes n identifiers cells buffer buffer writing
  unfolding buffer_after
  is_refused writing numbers e a = record { answer = rw e a; buffer = rw e }

  pub succeeds : (after scene : List ℕ) (bytes : ℕ) → write_of n identifiers cells (length buffer) ≡ written scene
      → length scene ≤ length buffer → bytes ≡ length scene → after ≡ sets buffer 0 scene
      → Writes n identifiers cells buffer after (Ok bytes)
  unfolding buffer_after laid
  succeeds after scene bytes e l b f =
      record {
        answer = rw (e, b);
        buffer = rw (e, f, sets-eq scene buffer 0 (omega arith), take-length scene, zero-add);
      }

  -- what an answer that it is written means
  pub written_means : (after : List ℕ) (bytes : ℕ) → Writes n identifiers cells buffer after (Ok bytes)
      → IsWritten n identifiers cells buffer after bytes
  unfolding buffer_after
  written_means after bytes w =
      written_or_refused n identifiers cells (length buffer) (IsWritten n identifiers cells buffer after bytes)
      (λ writable fits.
      let e = is-written n identifiers cells (length buffer) writable fits in
      record {
        writable = writable;
        fits = fits;
        bytes = ap (λ (a : Answer). a.count) (rw e at w.answer);
        buffer = rw e at w.buffer;
      })
      (λ numbers some e. absurd (some (sym (ap (λ (a : Answer). a.number) (rw e at w.answer)))))
