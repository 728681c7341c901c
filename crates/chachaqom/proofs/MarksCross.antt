-- The marks of an accepted scene cross to C whole: from its two bytes a host takes the number of the statement, at most 3,276.
use mathlib.Core.Path.{◌≡◌, ap, ◌∙◌}
use mathlib.Core.List.{List, [], ◌∷◌}
use Prim.Native.Nat.{ℕ, zero, suc, ◌+◌, ◌*◌, ◌≤◌, ◌<◌}
use native.Mathlib.Omega.{arith}
use borrow.Author.Tests.{eq-eqb}
use contract.Lifetimes.{Lfts}
use denote.Triple.Clauses.{AtExit}
use borrow.Fn.Kinds.{Dens, res_t, ended_of}
use lib.ListN.{length, get_or, length-replicate}
use Rattle.lists.specs.BigEndian.{two_bytes_each}
use Rattle.lists.proofs.BigEndianLaws.{two_joined}
use Rattle.answer.specs.Ending.{Ending}
use Rattle.matrix.proofs.CellLaws.{place_lt, length-grid, cell-grid}
use Rattle.filing.specs.Said.{Said, regions}
use Rattle.filing.specs.Marks.{mark_of, marks_of}
use Rattle.filing.specs.Areas.{Lent, lent_cells, padded}
use Rattle.filing.proofs.Packing.{few-cells}
use Rattle.filing.proofs.Padded.{length-padded, padded_in}
use Rattle.scene.specs.Reading.{accepted_said, read_scene, read_of}
use Rattle.scene.specs.Reads.{starting_cell, areas_after}
use Rattle.scene.proofs.Endings.{right-areas}
use Rattle.scene.proofs.Different.{accepted_different}
use Rattle.scene.proofs.Marked.{mark_small}
use Rattle.chachaqom.specs.ReadExport.{lent_bytes, mark_bytes_after, ReadExport}
use Rattle.chachaqom.specs.ReadBack.{mark_at}
use Rattle.chachaqom.proofs.Promised.{lent-whole}
use Rattle.chachaqom.proofs.read.chachaqom_read.Kinds as kinds
use Rattle.chachaqom.proofs.read.chachaqom_read.Reads.{Post}

-- an entry of 16 bits is taken out of its two bytes
mark_taken : (l : List ℕ) (k : ℕ) → k < length l → get_or l k 0 < 65536 → mark_at (two_bytes_each l) k ≡ get_or l k 0
unfolding two_bytes_each
mark_taken [] k h small = absurd (omega arith)
mark_taken (x ∷ l) zero h small = two_joined x small
mark_taken (x ∷ l) (suc k) h small =
    let at : 2 * suc k ≡ suc (suc (2 * k)) = omega arith in
    let next : suc (suc (2 * k)) + 1 ≡ suc (suc (2 * k + 1)) = omega arith in
    rw (at, next) (mark_taken l k (omega arith) small)

-- areas of the right lengths
pub whole-lent : (identifiers cells marks : List ℕ) → length identifiers ≡ 256 → length cells ≡ 4096 → length marks ≡ 8192
    → Lent (lent_bytes identifiers cells marks)
whole-lent identifiers cells marks long all each =
    rw (lent-whole identifiers cells marks long each)
    (record {
      identifiers-long = length-replicate {A = ℕ} 64 0;
      cells-long = all;
      marks-long = length-replicate {A = ℕ} 4096 0;
    })

module _ {scene identifiers cells marks answer identifiers' cells' marks' answer' : List ℕ} {number : ℕ}
    (read : ReadExport scene identifiers cells marks answer identifiers' cells' marks' answer' number) (long : length identifiers ≡ 256)
    (all : length cells ≡ 4096) (each : length marks ≡ 8192) (fit : length answer ≡ 20) {said : Said}
    (e : read_scene scene ≡ accepted_said said) where
  -- the marks that the scene gives, two bytes each, with zeros behind them
  pub marks_cross : marks' ≡ two_bytes_each (padded lent_cells (marks_of starting_cell said))
  unfolding areas_after
  marks_cross =
      let lent = whole-lent identifiers cells marks long all each in
      let ending : read_of scene (lent_bytes identifiers cells marks) ≡ accepted_said said = right-areas scene lent ∙ e in
      read.in_marks
      ∙ rw (eq-eqb (length answer) 20 fit)
      (ap (λ (o : Ending Said). mark_bytes_after o identifiers cells marks) ending ∙ rw lent.marks-long)

  -- each of them whole
  pub mark_read_back : (i j : ℕ) → i < regions said → j < regions said
      → mark_at marks' (i * regions said + j) ≡ mark_of starting_cell said.statements i j
  mark_read_back i j hi hj =
      let n : ℕ = regions said in
      let m : List ℕ = marks_of starting_cell said in
      let at : ℕ = i * n + j in
      let inside : at < n * n = place_lt n i j hi hj in
      let size : length m ≡ n * n = length-grid n (mark_of starting_cell said.statements) in
      let room : n * n ≤ lent_cells = few-cells n (accepted_different scene e).few in
      let held : get_or (padded lent_cells m) at 0 ≡ mark_of starting_cell said.statements i j =
      padded_in lent_cells m at (omega arith) ∙ cell-grid n (mark_of starting_cell said.statements) i j hi hj in
      ap (λ (b : List ℕ). mark_at b at) marks_cross
      ∙ mark_taken (padded lent_cells m) at (omega (arith, length-padded lent_cells m (omega arith)))
      (rw held (omega (arith, mark_small scene e i j hi hj)))
      ∙ held

-- about the call itself
pub read_mark_back : (κs : Lfts 5) (a : Dens κs kinds.ps) (r : (res_t kinds.r κs).Denot) (s : AtExit (ended_of 5 kinds.ps kinds.r) κs)
    → Post κs a r s → length a.1.0.now ≡ 256 → length a.1.1.0.now ≡ 4096 → length a.1.1.1.0.now ≡ 8192
    → length a.1.1.1.1.0.now ≡ 20 → (said : Said) → read_scene a.0.now ≡ accepted_said said
    → (i j : ℕ) → i < regions said → j < regions said
    → mark_at s.1.1.1.0.now (i * regions said + j) ≡ mark_of starting_cell said.statements i j
read_mark_back κs a r s post long all each fit said e = mark_read_back post long all each fit e
