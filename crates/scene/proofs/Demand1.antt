-- Demand 1 about the call: what `read` answers and leaves, whatever the scene.
use mathlib.Core.Path.{◌≡◌, ap, ◌∙◌}
use mathlib.Core.List.{List}
use Prim.Native.Nat.{ℕ, ◌*◌, ◌≤◌, ◌<◌}
use native.Mathlib.Omega.{arith}
use lib.ListN.{length, get_or, take}
use contract.Lifetimes.{Lfts}
use denote.Triple.Clauses.{AtExit}
use borrow.Fn.Kinds.{Dens, res_t, ended_of}
use Rattle.std.specs.Prelude.{Result, Ok, Err}
use Rattle.answer.specs.Ending.{answered}
use Rattle.relation.specs.Sets.{universal}
use Rattle.matrix.specs.Cells.{cell}
use Rattle.matrix.proofs.CellLaws.{cell-grid}
use Rattle.filing.specs.Said.{Said, regions}
use Rattle.filing.specs.Stated.{stated_cell}
use Rattle.filing.specs.Marks.{mark_of}
use Rattle.filing.specs.Areas.{Areas, holding, Lent, emptied}
use Rattle.scene.specs.Format.{most_bytes}
use Rattle.scene.specs.Reads.{Reads, starting_cell}
use Rattle.scene.specs.Reached.{Reached, Region}
use Rattle.scene.specs.Different.{Different}
use Rattle.scene.specs.Spoken.{spoken, among, MarkedBy}
use Rattle.scene.specs.declared.Unread.{Unread}
use Rattle.scene.specs.declared.Unread.TheVariants.{Refused}
use Rattle.scene.specs.declared.Refusal.TheVariants.{DeclaredTwice}
use Rattle.scene.proofs.Endings.{within_limit, right-areas}
use Rattle.scene.proofs.Different.{accepted_different, twice_refused}
use Rattle.scene.proofs.Filed.{filed}
use Rattle.scene.proofs.Marked.{unmarked, marked, mark_small}
use Rattle.scene.proofs.Answers.{accepted-leaves, refused_leaves}
use Rattle.scene.proofs.Unique.{answer_tells}
use Rattle.scene.proofs.read.Kinds as kinds
use Rattle.scene.proofs.read.Reads.{Post}

module _ {scene : List ℕ} {before after : Areas} {n : ℕ} (r : Reads scene before after (Ok n)) where
  -- no two regions share an identifier, and none is 0
  pub reads_different : Different (take n after.identifiers)
  reads_different = let left = accepted-leaves r in rw left.identifiers_front (accepted_different scene left.alone)

  -- every statement is filed under the regions that it names, and none is lost
  pub reads_filed : (i j : ℕ) → i < n → j < n
      → cell n (take (n * n) after.cells) i j
      ≡ among (spoken scene) (get_or (take n after.identifiers) i 0) (get_or (take n after.identifiers) j 0)
  reads_filed i j hi hj =
      let left = accepted-leaves r in
      let said = left.said in
      rw (left.cells_front, left.identifiers_front)
      (cell-grid n (stated_cell starting_cell said.statements) i j hi hj
      ∙ filed scene left.alone i j (omega (arith, left.counted)) (omega (arith, left.counted)))

  -- a cell has no mark exactly when it is 255
  pub reads_unmarked : (i j : ℕ) → i < n → j < n
      → (cell n (take (n * n) after.marks) i j ≡ 0 → cell n (take (n * n) after.cells) i j ≡ universal)
      × (cell n (take (n * n) after.cells) i j ≡ universal → cell n (take (n * n) after.marks) i j ≡ 0)
  reads_unmarked i j hi hj =
      let left = accepted-leaves r in
      let said = left.said in
      rw (
        left.cells_front,
        left.marks_front,
        cell-grid n (stated_cell starting_cell said.statements) i j hi hj,
        cell-grid n (mark_of starting_cell said.statements) i j hi hj,
      )
      (unmarked scene left.alone i j (omega (arith, left.counted)) (omega (arith, left.counted)))

  -- and else its mark is the number of the statement, from the one identifier to the other, that was the last to remove a relation
  pub reads_marked : (i j : ℕ) → i < n → j < n → (cell n (take (n * n) after.marks) i j ≡ 0 → ⊥)
      → MarkedBy (spoken scene) (get_or (take n after.identifiers) i 0) (get_or (take n after.identifiers) j 0)
      (cell n (take (n * n) after.marks) i j)
  reads_marked i j hi hj =
      let left = accepted-leaves r in
      let said = left.said in
      rw (left.identifiers_front, left.marks_front, cell-grid n (mark_of starting_cell said.statements) i j hi hj)
      (marked scene left.alone i j (omega (arith, left.counted)) (omega (arith, left.counted)))

  pub reads_mark_small : (i j : ℕ) → i < n → j < n → cell n (take (n * n) after.marks) i j ≤ 3276
  reads_mark_small i j hi hj =
      let left = accepted-leaves r in
      let said = left.said in
      rw (left.marks_front, cell-grid n (mark_of starting_cell said.statements) i j hi hj)
      (mark_small scene left.alone i j (omega (arith, left.counted)) (omega (arith, left.counted)))

-- an identifier that is declared again is refused, with 7 at the second record, and the areas are all 0
pub reads_twice : {scene : List ℕ} {before after : Areas} {reading : Result ℕ Unread} {at name : ℕ} {said : Said}
    → Reads scene before after reading → Lent before → length scene ≤ most_bytes → Reached scene at said → Region scene at name
    → (k : ℕ) → k < regions said → get_or said.identifiers k 0 ≡ name
    → (reading ≡ Err (Refused DeclaredTwice at)) × (after ≡ emptied before)
reads_twice {scene} {before} {after} {reading} {at} r lent short reached region k l e =
    let ending = right-areas scene lent ∙ within_limit scene short ∙ twice_refused reached region k l e in
    let told : reading ≡ Err (Refused DeclaredTwice at) =
    answer_tells reading (Err (Refused DeclaredTwice at)) (r.answer ∙ ap answered ending) in
    (told, (refused_leaves (rw told at r)).areas_are)

-- ---- about the generated Post of `read`

module _ (κs : Lfts 4) (a : Dens κs kinds.ps) (r : (res_t kinds.r κs).Denot) (s : AtExit (ended_of 4 kinds.ps kinds.r) κs) (post : Post κs a r s)
    (n : ℕ) (accepts : r ≡ Ok n) where
  pub read_different : Different (take n s.1.0.now)
  read_different = reads_different (rw accepts at post)

  pub read_filed : (i j : ℕ) → i < n → j < n
      → cell n (take (n * n) s.1.1.0.now) i j
      ≡ among (spoken a.0.now) (get_or (take n s.1.0.now) i 0) (get_or (take n s.1.0.now) j 0)
  read_filed = reads_filed (rw accepts at post)

  pub read_unmarked : (i j : ℕ) → i < n → j < n
      → (cell n (take (n * n) s.1.1.1.0.now) i j ≡ 0 → cell n (take (n * n) s.1.1.0.now) i j ≡ universal)
      × (cell n (take (n * n) s.1.1.0.now) i j ≡ universal → cell n (take (n * n) s.1.1.1.0.now) i j ≡ 0)
  read_unmarked = reads_unmarked (rw accepts at post)

  pub read_marked : (i j : ℕ) → i < n → j < n → (cell n (take (n * n) s.1.1.1.0.now) i j ≡ 0 → ⊥)
      → MarkedBy (spoken a.0.now) (get_or (take n s.1.0.now) i 0) (get_or (take n s.1.0.now) j 0)
      (cell n (take (n * n) s.1.1.1.0.now) i j)
  read_marked = reads_marked (rw accepts at post)

  pub read_mark_small : (i j : ℕ) → i < n → j < n → cell n (take (n * n) s.1.1.1.0.now) i j ≤ 3276
  read_mark_small = reads_mark_small (rw accepts at post)

pub read_twice : (κs : Lfts 4) (a : Dens κs kinds.ps) (r : (res_t kinds.r κs).Denot) (s : AtExit (ended_of 4 kinds.ps kinds.r) κs) → Post κs a r s
    → {at name : ℕ} {said : Said} → Lent (holding a.1.0.now a.1.1.0.now a.1.1.1.0.now) → length a.0.now ≤ most_bytes
    → Reached a.0.now at said → Region a.0.now at name
    → (k : ℕ) → k < regions said → get_or said.identifiers k 0 ≡ name
    → (r ≡ Err (Refused DeclaredTwice at))
    × (holding s.1.0.now s.1.1.0.now s.1.1.1.0.now
    ≡ emptied (holding a.1.0.now a.1.1.0.now a.1.1.1.0.now))
read_twice κs a r s post lent short reached region k l e = reads_twice post lent short reached region k l e
