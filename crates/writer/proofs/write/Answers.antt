-- `writer::write` meets its contract: each check is the definition's, and nothing is put before the last has passed.
use mathlib.Core.Path.{refl, sym, ap, ◌∙◌}
use Prim.Native.Nat.{ℕ}
use native.Mathlib.Omega.{arith}
use Rattle.answer.specs.Answer.{answer}
use Rattle.matrix.specs.Cells.{row}
use Rattle.matrix.proofs.CellLaws.{range_holds}
use Rattle.writer.specs.Writable.{Sized, Writable}
use Rattle.writer.proofs.SceneLaws.{square-small}
use Rattle.writer.proofs.WriteLaws.{sized_by, bad_at, none_bad, empty_at, none_empty, is-written, is_refused, succeeds}
use Rattle.writer.proofs.WriteLaws.{out_of_range, other-regions, other-cells, zero_refused, twice_refused, empty_refused, long_refused, no_room}
use Rattle.writer.proofs.write.Goals as goal
use Rattle.writer.proofs.write.Goals.{then-identifiers-n-via-then-identifiers-n, then-identifiers-n-via-else-identifiers-n+then-cells-n}

pub returns-then-not-in_range : goal.returns-then-not-in_range
returns-then-not-in_range c =
    is_refused c.args.n _ _ _ _ _ (out_of_range c.args.n _ _ _ (sym c.in_range.ensures ∙ c.if-not-in_range.true)) refl

pub overflow_mul-n : goal.overflow_mul-n
overflow_mul-n c =
    let holds = range_holds _ (sym c.in_range.ensures ∙ c.if-not-in_range.false) in omega (arith, square-small c.args.n holds.1)

pub returns-then-identifiers-n : goal.returns-then-identifiers-n
returns-then-identifiers-n c =
    let range = sym c.in_range.ensures ∙ c.if-not-in_range.false in
    elim c.then-identifiers-n.branch [
      | then-identifiers-n-via-then-identifiers-n w ↦
          is_refused c.args.n _ _ _ _ _ (other-regions c.args.n c.args.identifiers.now _ _ range w.if-identifiers-n.true) refl
      | then-identifiers-n-via-else-identifiers-n+then-cells-n w ↦
          is_refused c.args.n _ _ _ _ _
          (other-cells c.args.n c.args.identifiers.now c.args.cells.now _ range w.if-identifiers-n.false w.if-cells-n.true) refl
    ]

pub returns-then-identifier_at-eq0 : goal.returns-then-identifier_at-eq0
returns-then-identifier_at-eq0 c =
    let s : Sized c.args.n c.args.identifiers.now c.args.cells.now =
    sized_by _ _ _ (sym c.in_range.ensures ∙ c.if-not-in_range.false) c.if-identifiers-n.false c.if-cells-n.false in
    let bad = bad_at _ _ _ s (sym c.in-Some.is ∙ c.first_bad.ensures) in
    is_refused c.args.n _ _ _ _ _
    (zero_refused _ _ _ _ s _ bad.0 bad.1 (sym c.identifier_at.ensures ∙ c.if-identifier_at-eq0.true)) refl

pub returns-in-Some : goal.returns-in-Some
returns-in-Some c =
    let s : Sized c.args.n c.args.identifiers.now c.args.cells.now =
    sized_by _ _ _ (sym c.in_range.ensures ∙ c.if-not-in_range.false) c.if-identifiers-n.false c.if-cells-n.false in
    let bad = bad_at _ _ _ s (sym c.in-Some.is ∙ c.first_bad.ensures) in
    is_refused c.args.n _ _ _ _ _
    (twice_refused _ _ _ _ s _ bad.0 bad.1 (λ z. c.if-identifier_at-eq0.false (c.identifier_at.ensures ∙ z))) refl

pub invariant_of-matrix : goal.invariant_of-matrix
invariant_of-matrix c =
    record { sized = sized_by _ _ _ (sym c.in_range.ensures ∙ c.if-not-in_range.false) c.if-identifiers-n.false c.if-cells-n.false }

pub returns-in-Some-first_empty : goal.returns-in-Some-first_empty
returns-in-Some-first_empty c =
    let s : Sized c.args.n c.args.identifiers.now c.args.cells.now =
    sized_by _ _ _ (sym c.in_range.ensures ∙ c.if-not-in_range.false) c.if-identifiers-n.false c.if-cells-n.false in
    let good = none_bad _ _ _ s (sym c.in_default.is ∙ c.first_bad.ensures) in
    let empty = empty_at _ _ _ s (sym c.in-Some-first_empty.is ∙ c.first_empty.ensures) in
    is_refused c.args.n _ _ _ _ _ (empty_refused _ _ _ _ s good _ empty.0 empty.1)
    (ap (λ (i : ℕ). answer 10 i c.regions_of.result.1.0 0 0) c.regions_of.ensures.row
    ∙ ap (λ (j : ℕ). answer 10 (row c.args.n c.in-Some-first_empty.empty) j 0 0) c.regions_of.ensures.column)

pub invariant_of-matrix-2 : goal.invariant_of-matrix-2
invariant_of-matrix-2 c =
    record { sized = sized_by _ _ _ (sym c.in_range.ensures ∙ c.if-not-in_range.false) c.if-identifiers-n.false c.if-cells-n.false }

pub returns-then-length-gt-MOST_BYTES : goal.returns-then-length-gt-MOST_BYTES
returns-then-length-gt-MOST_BYTES c =
    let s : Sized c.args.n c.args.identifiers.now c.args.cells.now =
    sized_by _ _ _ (sym c.in_range.ensures ∙ c.if-not-in_range.false) c.if-identifiers-n.false c.if-cells-n.false in
    let good = none_bad _ _ _ s (sym c.in_default.is ∙ c.first_bad.ensures) in
    let full = none_empty _ _ _ s (sym c.in_default-first_empty.is ∙ c.first_empty.ensures) in
    is_refused c.args.n _ _ _ _ _ (long_refused _ _ _ _ s good full (omega arith)) refl

pub returns-then-buffer-length : goal.returns-then-buffer-length
returns-then-buffer-length c =
    let s : Sized c.args.n c.args.identifiers.now c.args.cells.now =
    sized_by _ _ _ (sym c.in_range.ensures ∙ c.if-not-in_range.false) c.if-identifiers-n.false c.if-cells-n.false in
    let good = none_bad _ _ _ s (sym c.in_default.is ∙ c.first_bad.ensures) in
    let full = none_empty _ _ _ s (sym c.in_default-first_empty.is ∙ c.first_empty.ensures) in
    let w : Writable c.args.n c.args.identifiers.now c.args.cells.now =
    record { sized = s; good = good; full = full; short = omega arith } in
    is_refused c.args.n _ _ _ _ _ (no_room _ _ _ _ w (omega arith)) refl

pub returns : goal.returns
returns c =
    let s : Sized c.args.n c.args.identifiers.now c.args.cells.now =
    sized_by _ _ _ (sym c.in_range.ensures ∙ c.if-not-in_range.false) c.if-identifiers-n.false c.if-cells-n.false in
    let good = none_bad _ _ _ s (sym c.in_default.is ∙ c.first_bad.ensures) in
    let full = none_empty _ _ _ s (sym c.in_default-first_empty.is ∙ c.first_empty.ensures) in
    let w : Writable c.args.n c.args.identifiers.now c.args.cells.now =
    record { sized = s; good = good; full = full; short = omega arith } in
    succeeds c.args.n _ _ _ _ _ _ (is-written _ _ _ _ w (omega arith)) (omega arith) c.scene_length-length.ensures c.put_scene.ensures
