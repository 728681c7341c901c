-- Reading what was written gives back the same number of regions, identifiers and cells; and what was read is written again, and
-- read back the same.
use mathlib.Core.Path.{◌≡◌, refl, sym, ap, ◌∙◌, subst}
use mathlib.Core.List.{List}
use Prim.Native.Nat.{ℕ, ◌+◌, ◌*◌, ◌≤◌, ◌<◌}
use native.Mathlib.Omega.{arith}
use lib.ListN.{length, get_or, take, get_or-eq_default}
use lib.Seq.{take-length}
use contract.Lifetimes.{Lfts}
use denote.Triple.Clauses.{AtExit}
use borrow.Fn.Kinds.{Dens, res_t, ended_of}
use Rattle.std.specs.Prelude.{Result, Ok}
use Rattle.lists.specs.BigEndian.{AllBytes}
use Rattle.lists.proofs.Splits.{split_lt}
use Rattle.lists.proofs.LaidLaws.{take-laid}
use Rattle.answer.specs.Answer.{accepts}
use Rattle.answer.specs.Ending.{Ending}
use Rattle.matrix.specs.Cells.{row, column, grid}
use Rattle.matrix.proofs.CellLaws.{place_lt, place-back, row_lt, column_lt, length-grid, at_place, no_empty, none-empty}
use Rattle.filing.specs.Said.{Said, regions}
use Rattle.filing.specs.Stated.{stated_cell, cells_of}
use Rattle.filing.specs.Marks.{marks_of}
use Rattle.filing.specs.Areas.{Areas, holding, Lent, lent_identifiers, lent_cells, padded, filled}
use Rattle.filing.proofs.Padded.{padded_in, padded_front}
use Rattle.scene.specs.Reading.{accepted_said, read_scene, read_of}
use Rattle.scene.specs.Reads.{Reads, starting_cell, areas_after}
use Rattle.scene.specs.declared.Unread.{Unread}
use Rattle.scene.proofs.Endings.{right-areas, accepted-short}
use Rattle.scene.proofs.Different.{accepted_different, accepted-some}
use Rattle.scene.proofs.Small.{stated-byte, accepted-small}
use Rattle.scene.proofs.Answers.{AcceptedLeaves, accepted-leaves}
use Rattle.scene.proofs.Unique.{answer_tells}
use Rattle.scene.proofs.read.Kinds as kinds
use Rattle.scene.proofs.read.Reads.{Post}
use Rattle.writer.specs.Scene.{scene_of}
use Rattle.writer.specs.Writes.{Writes}
use Rattle.writer.specs.Writable.{Writable}
use Rattle.writer.specs.RoundTrip.{Words, written_marks, Restored, Rewritten}
use Rattle.writer.specs.declared.Unwritten.{Unwritten}
use Rattle.writer.proofs.CheckLaws.{good-names, names-good}
use Rattle.writer.proofs.WriteLaws.{is-written, written_means}
use Rattle.writer.proofs.Unique.{same_numbers}
use Rattle.writer.proofs.ReadBack.{saying, statements_of, scene_read}
use Rattle.writer.proofs.NoLonger.{no_longer}
use Rattle.writer.proofs.CellsBack.{cells-back}
use Rattle.writer.proofs.MarksBack.{marks-back}

-- ---- about the definitions

module _ (n : ℕ) (identifiers cells : List ℕ) (w : Writable n identifiers cells) (words : Words identifiers) where
  -- what a written scene says: the identifiers and a statement for each cell that is not 255
  abbrev pub says : Said
  says = saying identifiers (statements_of (n * n) n cells)

  -- the scene is accepted, and says just that
  pub read_back : read_scene (scene_of n identifiers cells) ≡ accepted_said says
  read_back =
      scene_read n identifiers cells w.sized (good-names n identifiers w.sized.regions w.sized.square.few w.good) words
      (λ p l e. no_empty n cells w.full (row n p) (column n p) (row_lt n p l) (column_lt n p l)
      (ap (λ (k : ℕ). get_or cells k 0) (place-back n p) ∙ e))
      w.short

  -- which makes the cells
  pub made-back : AllBytes cells → cells_of starting_cell says ≡ cells
  made-back bytes = rw w.sized.regions (cells-back n cells w.sized.square.size bytes.small)

  -- each cell that is not 255 marked by its own statement
  pub marked-back : AllBytes cells → marks_of starting_cell says ≡ written_marks n cells
  marked-back bytes = rw w.sized.regions (marks-back n cells bytes.small)

-- ---- about the calls

-- areas that are filled with what a scene says
filled_with : (said : Said) (before : Areas) (identifiers cells marks : List ℕ) → Lent before → said.identifiers ≡ identifiers
    → cells_of starting_cell said ≡ cells → marks_of starting_cell said ≡ marks
    → filled starting_cell said before ≡ holding (padded lent_identifiers identifiers) (padded lent_cells cells) (padded lent_cells marks)
filled_with said before identifiers cells marks lent e d m =
    rw (d, m, lent.identifiers-long, lent.cells-long, lent.marks-long, e)

-- the bytes that a write left in front, as many as it answered, read back to what was written
pub round_trip : {n : ℕ} {identifiers cells buffer after : List ℕ} {bytes : ℕ} → Words identifiers → AllBytes cells
    → Writes n identifiers cells buffer after (Ok bytes)
    → {lent read : Areas} {reading : Result ℕ Unread} → Lent lent → Reads (take bytes after) lent read reading
    → Restored n identifiers cells reading read
unfolding areas_after
round_trip {n} {identifiers} {cells} {buffer} {after} {bytes} words small writes {lent} {read} {reading} right reads =
    let done = written_means n identifiers cells buffer after bytes writes in
    let w = done.writable in
    let scene : List ℕ = scene_of n identifiers cells in
    let said : Said = says n identifiers cells w words in
    let part : take bytes after ≡ scene =
    rw (done.bytes, done.buffer) (take-laid (length scene) scene buffer (omega arith) ∙ take-length scene) in
    let ending : read_of (take bytes after) lent ≡ accepted_said said =
    right-areas (take bytes after) right ∙ ap read_scene part ∙ read_back n identifiers cells w words in
    record {
      regions = answer_tells reading (Ok n) (rw ending at reads.answer ∙ ap accepts w.sized.regions);
      areas = reads.areas ∙ ap (λ (e : Ending Said). areas_after e lent) ending
          ∙ filled_with said lent identifiers cells (written_marks n cells) right refl (made-back n identifiers cells w words small)
          (marked-back n identifiers cells w words small);
    }

-- ---- the other way: what was read is written

-- What an accepted scene says may be written where no cell is empty: never 1, 2, 6, 7 or 10, and never 3, since the written scene
-- is no longer than the one that was read.
pub rewritable : (scene : List ℕ) {said : Said} → read_scene scene ≡ accepted_said said
    → ((p : ℕ) → p < regions said * regions said → get_or (cells_of starting_cell said) p 0 ≡ 0 → ⊥)
    → Writable (regions said) said.identifiers (cells_of starting_cell said)
rewritable scene {said} e full =
    let n : ℕ = regions said in
    let different = accepted_different scene e in
    record {
      sized = record {
        square = record {
          some = accepted-some scene e;
          few = different.few;
          size = length-grid n (stated_cell starting_cell said.statements);
        };
        regions = refl;
      };
      good = names-good n said.identifiers refl different;
      full = none-empty n (cells_of starting_cell said) (λ i j hi hj. full (i * n + j) (place_lt n i j hi hj));
      short = omega (arith, no_longer scene e, accepted-short scene e);
    }

-- the cells of a scene are bytes
bytes_said : (said : Said) → AllBytes (cells_of starting_cell said)
bytes_said said =
    let n : ℕ = regions said in
    let f : ℕ → ℕ → ℕ = stated_cell starting_cell said.statements in
    record {
      small = λ p. split_lt p (n * n)
          (λ l. rw (at_place n f p l) (stated-byte said.statements (row n p) (column n p)))
          (λ l. rw (get_or-eq_default (grid n f) 0 {n = p} (omega (arith, length-grid n f))) (omega arith));
    }

-- what was said is written into any buffer as long as the scene that said it
module _ (scene : List ℕ) (said : Said) (bytes : AllBytes scene) (alone : read_scene scene ≡ accepted_said said) where
  said_again : (marks buffer after : List ℕ) (writing : Result ℕ Unwritten) → length scene ≤ length buffer
      → ((p : ℕ) → p < regions said * regions said → get_or (cells_of starting_cell said) p 0 ≡ 0 → ⊥)
      → Writes (regions said) said.identifiers (cells_of starting_cell said) buffer after writing
      → Rewritten scene (holding (padded lent_identifiers said.identifiers) (padded lent_cells (cells_of starting_cell said)) marks) after
      (regions said) writing
  said_again marks buffer after writing fits full writes =
      let n : ℕ = regions said in
      let cells : List ℕ = cells_of starting_cell said in
      let size : ℕ = length (scene_of n said.identifiers cells) in
      let front : take (n * n) (padded lent_cells cells) ≡ cells =
      padded_front lent_cells cells (length-grid n (stated_cell starting_cell said.statements)) refl in
      let shorter = no_longer scene alone in
      let written = is-written n said.identifiers cells (length buffer) (rewritable scene alone full) (omega arith) in
      let answer : writing ≡ Ok size = same_numbers writing (Ok size) (rw written at writes.answer) in
      record {
        bytes = size;
        written = answer;
        shorter = shorter;
        again = λ lent read reading right reads.
            let r = round_trip (record { small = accepted-small scene bytes alone }) (bytes_said said) (rw answer at writes) right reads in
            (r.regions, rw front r.areas);
      }

-- the cells that were read stand in front of the area, so none of them is empty where none of the area's is
full_said : {scene : List ℕ} {lent read : Areas} {n : ℕ} (left : AcceptedLeaves scene lent read n)
    → ((p : ℕ) → p < n * n → get_or read.cells p 0 ≡ 0 → ⊥)
    → (p : ℕ) → p < n * n → get_or (grid n (stated_cell starting_cell left.said.statements)) p 0 ≡ 0 → ⊥
full_said {n = n} left full p l e =
    let f : ℕ → ℕ → ℕ = stated_cell starting_cell left.said.statements in
    full p l (ap (λ (c : List ℕ). get_or c p 0) left.cells_are ∙ padded_in lent_cells (grid n f) p (rw (length-grid n f) l) ∙ e)

-- the same about the call
pub reads_rewritable : {scene : List ℕ} {lent read : Areas} {n : ℕ} → Reads scene lent read (Ok n)
    → ((p : ℕ) → p < n * n → get_or read.cells p 0 ≡ 0 → ⊥)
    → Writable n (take n read.identifiers) (take (n * n) read.cells)
reads_rewritable {scene} {n = n} reads full =
    let left = accepted-leaves reads in
    let said = left.said in
    rw (left.identifiers_front, left.cells_front)
    (subst
    (λ (k : ℕ). let c : List ℕ = grid k (stated_cell starting_cell said.statements) in
    ((p : ℕ) → p < k * k → get_or c p 0 ≡ 0 → ⊥) → Writable k said.identifiers c)
    left.counted (rewritable scene left.alone) (full_said left full))

-- and about the generated Post of `read`
pub read_rewritable : (κs : Lfts 4) (a : Dens κs kinds.ps) (r : (res_t kinds.r κs).Denot) (s : AtExit (ended_of 4 kinds.ps kinds.r) κs)
    → Post κs a r s → (n : ℕ) → r ≡ Ok n → ((p : ℕ) → p < n * n → get_or s.1.1.0.now p 0 ≡ 0 → ⊥)
    → Writable n (take n s.1.0.now) (take (n * n) s.1.1.0.now)
read_rewritable κs a r s post n accepted = reads_rewritable (rw accepted at post)

-- What was read from an accepted scene, with no empty cell, is written into any buffer as long as that scene, in no more bytes, and
-- reading that again gives the same, with the marks of the written scene. That is a normal form: what may be lost is the order of the
-- statements, so the marks too, that a cell was stated more than once, and statements of 255.
pub read_write_read : {scene : List ℕ} {lent read : Areas} {n : ℕ} → AllBytes scene → Reads scene lent read (Ok n)
    → ((p : ℕ) → p < n * n → get_or read.cells p 0 ≡ 0 → ⊥)
    → {buffer after : List ℕ} {writing : Result ℕ Unwritten} → length scene ≤ length buffer
    → Writes n (take n read.identifiers) (take (n * n) read.cells) buffer after writing
    → Rewritten scene read after n writing
read_write_read {scene} {lent} {read} {n} bytes reads full {buffer} {after} {writing} fits writes =
    let left = accepted-leaves reads in
    let said = left.said in
    let cells : List ℕ = grid n (stated_cell starting_cell said.statements) in
    let same : Writes n said.identifiers cells buffer after writing = rw (left.identifiers_front, left.cells_front) at writes in
    let are : holding (padded lent_identifiers said.identifiers) (padded lent_cells cells) read.marks ≡ read =
    sym (holding_all read left.identifiers_are left.cells_are) in
    subst (λ (a : Areas). Rewritten scene a after n writing) are
    (subst
    (λ (k : ℕ). let c : List ℕ = grid k (stated_cell starting_cell said.statements) in
    ((p : ℕ) → p < k * k → get_or c p 0 ≡ 0 → ⊥) → Writes k said.identifiers c buffer after writing
    → Rewritten scene (holding (padded lent_identifiers said.identifiers) (padded lent_cells c) read.marks) after k writing)
    left.counted (said_again scene said bytes left.alone read.marks buffer after writing fits) (full_said left full) same)
  where
    holding_all : (areas : Areas) {identifiers cells : List ℕ} → areas.identifiers ≡ identifiers → areas.cells ≡ cells
        → areas ≡ holding identifiers cells areas.marks
    holding_all areas e d = rw (← e, ← d)
