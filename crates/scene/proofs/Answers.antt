-- What each answer of the reader tells of the ending and of the areas: what a caller that goes by the answer needs in each case.
use mathlib.Core.Path.{◌≡◌, refl, sym, ap, ◌∙◌}
use mathlib.Core.List.{List}
use Prim.Native.Nat.{ℕ, ◌*◌, ◌≤◌, ◌<◌}
use native.Mathlib.Omega.{arith}
use lib.ListN.{length, take}
use Rattle.std.specs.Prelude.{Result, Ok, Err}
use Rattle.answer.specs.Answer.{Answer, refuses}
use Rattle.answer.specs.Ending.{Ending, answered}
use Rattle.matrix.specs.Square.{most_regions}
use Rattle.matrix.specs.Cells.{grid}
use Rattle.matrix.proofs.CellLaws.{length-grid}
use Rattle.filing.specs.Said.{Said, regions}
use Rattle.filing.specs.Stated.{stated_cell, cells_of}
use Rattle.filing.specs.Marks.{mark_of, marks_of}
use Rattle.filing.specs.Areas.{Areas, Lent, lent_identifiers, lent_cells, padded, filled, emptied}
use Rattle.filing.proofs.Padded.{padded_front}
use Rattle.scene.specs.Format.{most_bytes}
use Rattle.scene.specs.Reading.{accepted_said, refused_at, read_scene, read_of}
use Rattle.scene.specs.Numbers.{number_of, answer_of}
use Rattle.scene.specs.Reads.{Reads, starting_cell, areas_after}
use Rattle.scene.specs.declared.Unread.{Unread}
use Rattle.scene.specs.declared.Unread.TheVariants.{WrongLength, TooLong, Refused}
use Rattle.scene.specs.declared.Refusal.{Refusal}
use Rattle.scene.proofs.Numbered.{numbered, is_no_length}
use Rattle.scene.proofs.Reasons.{because, refused_numbered, named_within}
use Rattle.scene.proofs.Reached.{Ended, at_end, at_refusal, ended, reached_within, reached_few}
use Rattle.scene.proofs.Endings.{all_cases, scene_cases, right-areas, accepted-lent, accepted_scene}
use Rattle.scene.proofs.Different.{accepted_different, accepted-some}

-- ---- the numbers of an ending

-- every ending's numbers are small
pub record Small (a : Answer) : Type 0 where
  pub number : a.number ≤ 11
  pub offset : a.first ≤ most_bytes
  pub second : a.second ≡ 0
  pub third : a.third ≡ 0
  pub count : a.count ≤ most_regions

ended_small : {scene : List ℕ} {ending : Ending Said} → length scene ≤ most_bytes → Ended scene ending → Small (answered ending)
ended_small {scene} short (at_end at said r e) =
    record { number = omega arith; offset = omega arith; second = refl; third = refl; count = reached_few scene r }
ended_small {scene} short (at_refusal at said number offset r e) =
    let why = because scene said at e in
    record {
      number = (refused_numbered why).most;
      offset = omega (arith, named_within (reached_within scene r) why);
      second = refl;
      third = refl;
      count = omega arith;
    }

pub read_small : (scene : List ℕ) (areas : Areas) → Small (answered (read_of scene areas))
read_small scene areas =
    all_cases (λ (e : Ending Said). Small (answered e)) scene areas
    (record { number = omega arith; offset = omega arith; second = refl; third = refl; count = omega arith })
    (record { number = omega arith; offset = omega arith; second = refl; third = refl; count = omega arith })
    (λ short. ended_small short (ended scene))

-- ---- the ending that an answer stands for

pub record AcceptedSo (ending : Ending Said) (count : ℕ) : Type 0 where
  pub said : Said
  pub is : ending ≡ accepted_said said
  pub counted : regions said ≡ count

abbrev pub Tells : Result ℕ Unread → Ending Said → Type 0
Tells (Ok count) ending = AcceptedSo ending count
Tells (Err WrongLength) ending = ending ≡ refused_at 2 0
Tells (Err TooLong) ending = ending ≡ refused_at 3 most_bytes
Tells (Err (Refused refusal offset)) ending = ending ≡ refused_at (number_of refusal) offset

-- an answer tells the ending
abbrev Told : Ending Said → Type 0
Told ending = (reading : Result ℕ Unread) → answer_of reading ≡ answered ending → Tells reading ending

number_same : (number offset other elsewhere : ℕ) → refuses number offset ≡ refuses other elsewhere
    → refused_at other elsewhere ≡ refused_at number offset
number_same number offset other elsewhere e =
    let same_number : number ≡ other = ap (λ (a : Answer). a.number) e in
    let same_offset : offset ≡ elsewhere = ap (λ (a : Answer). a.first) e in
    rw (same_number, same_offset)

told-accepted : (said : Said) → Told (accepted_said said)
told-accepted said (Ok count) e = record { said = said; is = refl; counted = sym (ap (λ (a : Answer). a.count) e) }
told-accepted said (Err WrongLength) e = absurd (omega (arith, ap (λ (a : Answer). a.number) e))
told-accepted said (Err TooLong) e = absurd (omega (arith, ap (λ (a : Answer). a.number) e))
told-accepted said (Err (Refused refusal at)) e = absurd (omega (arith, (numbered refusal).positive, ap (λ (a : Answer). a.number) e))

-- a refusal's number is not 0, so an acceptance is told apart
told_refused : (number offset : ℕ) → 0 < number → Told (refused_at number offset)
told_refused number offset h (Ok count) e = absurd (omega (arith, ap (λ (a : Answer). a.number) e))
told_refused number offset h (Err WrongLength) e = number_same 2 0 number offset e
told_refused number offset h (Err TooLong) e = number_same 3 most_bytes number offset e
told_refused number offset h (Err (Refused refusal at)) e = number_same (number_of refusal) at number offset e

told_ended : {scene : List ℕ} {ending : Ending Said} → Ended scene ending → Told ending
told_ended (at_end at said r e) = told-accepted said
told_ended {scene} (at_refusal at said number offset r e) =
    told_refused number offset (refused_numbered (because scene said at e)).positive

pub tells : (scene : List ℕ) (areas : Areas) (reading : Result ℕ Unread) → answer_of reading ≡ answered (read_of scene areas)
    → Tells reading (read_of scene areas)
tells scene areas reading e =
    all_cases Told scene areas (told_refused 2 0 (omega arith)) (told_refused 3 most_bytes (omega arith))
    (λ short. told_ended (ended scene)) reading e

-- areas of the right lengths are not refused for their lengths
no_length : {scene : List ℕ} {ending : Ending Said} → Ended scene ending → ending ≡ refused_at 2 0 → ⊥
no_length (at_end at said r e) q = let z : ◌≡◌ {A = ℕ} 0 1 = cc in absurd (omega arith)
no_length {scene} (at_refusal at said number offset r e) q =
    (refused_numbered (because scene said at e)).no_length (ap (λ (a : Answer). a.number) (ap answered q))

pub right_lengths : (scene : List ℕ) {areas : Areas} → Lent areas → read_of scene areas ≡ refused_at 2 0 → ⊥
right_lengths scene lent e =
    scene_cases (λ (o : Ending Said). o ≡ refused_at 2 0 → ⊥) scene
    (λ q. omega (arith, ap (λ (a : Answer). a.number) (ap answered q)))
    (λ short. no_length (ended scene))
    (sym (right-areas scene lent) ∙ e)

-- ---- what each answer leaves

-- an acceptance: the identifiers by place, the cells and their marks in rows of n, with 0 behind them
pub record AcceptedLeaves (scene : List ℕ) (before after : Areas) (n : ℕ) : Type 0 where
  pub said : Said
  pub ending : read_of scene before ≡ accepted_said said
  pub alone : read_scene scene ≡ accepted_said said
  pub counted : regions said ≡ n
  pub some : 1 ≤ n
  pub few : n ≤ most_regions
  pub lent : Lent before
  pub areas_are : after ≡ filled starting_cell said before
  pub identifiers_are : after.identifiers ≡ padded lent_identifiers said.identifiers
  pub cells_are : after.cells ≡ padded lent_cells (grid n (stated_cell starting_cell said.statements))
  pub marks_are : after.marks ≡ padded lent_cells (grid n (mark_of starting_cell said.statements))
  pub identifiers_front : take n after.identifiers ≡ said.identifiers
  pub cells_front : take (n * n) after.cells ≡ grid n (stated_cell starting_cell said.statements)
  pub marks_front : take (n * n) after.marks ≡ grid n (mark_of starting_cell said.statements)

-- a refusal of the scene: areas all 0
pub record RefusedLeaves (scene : List ℕ) (before after : Areas) (number offset : ℕ) : Type 0 where
  pub ending : read_of scene before ≡ refused_at number offset
  pub areas_are : after ≡ emptied before

-- areas of another length: as they were
pub record WrongLeaves (scene : List ℕ) (before after : Areas) : Type 0 where
  pub ending : read_of scene before ≡ refused_at 2 0
  pub areas_are : after ≡ before

module _ {scene : List ℕ} {before after : Areas} where
  after_is : {reading : Result ℕ Unread} {ending : Ending Said} → Reads scene before after reading → read_of scene before ≡ ending
      → after ≡ areas_after ending before
  after_is r e = r.areas ∙ ap (λ (o : Ending Said). areas_after o before) e

  pub accepted-leaves : {n : ℕ} → Reads scene before after (Ok n) → AcceptedLeaves scene before after n
  unfolding areas_after
  accepted-leaves {n} r =
      let t = tells scene before (Ok n) r.answer in
      let said = t.said in
      let lent = accepted-lent scene before t.is in
      let alone = accepted_scene scene before t.is in
      let are : after ≡ filled starting_cell said before = after_is r t.is in
      let cells : List ℕ = grid n (stated_cell starting_cell said.statements) in
      let names : after.identifiers ≡ padded lent_identifiers said.identifiers =
      ap (λ (a : Areas). a.identifiers) are ∙ ap (λ (k : ℕ). padded k said.identifiers) lent.identifiers-long in
      let sets : after.cells ≡ padded lent_cells cells =
      ap (λ (a : Areas). a.cells) are ∙ ap (λ (k : ℕ). padded k (cells_of starting_cell said)) lent.cells-long
      ∙ ap (λ (k : ℕ). padded lent_cells (grid k (stated_cell starting_cell said.statements))) t.counted in
      let marks : after.marks ≡ padded lent_cells (grid n (mark_of starting_cell said.statements)) =
      ap (λ (a : Areas). a.marks) are ∙ ap (λ (k : ℕ). padded k (marks_of starting_cell said)) lent.marks-long
      ∙ ap (λ (k : ℕ). padded lent_cells (grid k (mark_of starting_cell said.statements))) t.counted in
      record {
        said = said;
        ending = t.is;
        alone = alone;
        counted = t.counted;
        some = omega (arith, accepted-some scene alone, t.counted);
        few = omega (arith, (accepted_different scene alone).few, t.counted);
        lent = lent;
        areas_are = are;
        identifiers_are = names;
        cells_are = sets;
        marks_are = marks;
        identifiers_front = padded_front lent_identifiers said.identifiers t.counted names;
        cells_front = padded_front lent_cells cells (length-grid n (stated_cell starting_cell said.statements)) sets;
        marks_front = padded_front lent_cells (grid n (mark_of starting_cell said.statements))
            (length-grid n (mark_of starting_cell said.statements)) marks;
      }

  pub refused_leaves : {refusal : Refusal} {offset : ℕ} → Reads scene before after (Err (Refused refusal offset))
      → RefusedLeaves scene before after (number_of refusal) offset
  unfolding areas_after
  refused_leaves {refusal} {offset} r =
      let e = tells scene before (Err (Refused refusal offset)) r.answer in
      record { ending = e; areas_are = after_is r e ∙ rw (is_no_length (numbered refusal)) }

  pub too_long_leaves : Reads scene before after (Err TooLong) → RefusedLeaves scene before after 3 most_bytes
  unfolding areas_after
  too_long_leaves r =
      let e = tells scene before (Err TooLong) r.answer in record { ending = e; areas_are = after_is r e }

  pub wrong_length_leaves : Reads scene before after (Err WrongLength) → WrongLeaves scene before after
  unfolding areas_after
  wrong_length_leaves r =
      let e = tells scene before (Err WrongLength) r.answer in record { ending = e; areas_are = after_is r e }
