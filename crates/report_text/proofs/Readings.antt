-- The report of a reading, by its answer.
use mathlib.Core.Path.{◌≡◌, refl, sym, ap, ◌∙◌, subst}
use mathlib.Core.List.{List, ◌++◌}
use Prim.Native.Nat.{ℕ, zero, suc, ◌+◌, ◌*◌, ◌≤◌}
use native.Mathlib.Nat.{zero-add, mul-le-mul}
use native.Mathlib.Omega.{arith}
use lib.ListN.{length, get_or, take, drop, replicate, length-replicate, length-append, length-take}
use lib.Seq.{take_all}
use Rattle.lists.specs.Laid.{laid}
use Rattle.std.proofs.Common.{Result, Ok, Err}
use Rattle.answer.specs.Answer.{Answer}
use Rattle.answer.specs.Told.{told}
use Rattle.answer.specs.declared.Numbers.{Numbers}
use Rattle.answer.specs.Ending.{Ending, accepted, refused}
use Rattle.matrix.specs.Square.{Square}
use Rattle.matrix.specs.Cells.{grid, row, column}
use Rattle.matrix.proofs.CellLaws.{length-grid}
use Rattle.refinement.specs.Prepare.{prepared}
use Rattle.refinement.specs.Refine.{refine}
use Rattle.filing.specs.Stated.{stated_cell}
use Rattle.filing.specs.Marks.{mark_of}
use Rattle.filing.specs.Areas.{Areas, Lent, holding, padded}
use Rattle.filing.proofs.Padded.{padded-same}
use Rattle.scene.specs.declared.Unread.{Unread}
use Rattle.scene.specs.declared.Unread.TheVariants.{WrongLength, TooLong, Refused}
use Rattle.scene.specs.Format.{most_bytes}
use Rattle.scene.specs.Numbers.{number_of, answer_of}
use Rattle.scene.specs.Reading.{accepted_said, refused_at, read_scene}
use Rattle.scene.specs.Reads.{Reads, starting_cell}
use Rattle.scene.proofs.Endings.{right-areas}
use Rattle.scene.proofs.Answers.{AcceptedLeaves, accepted-leaves, refused_leaves, too_long_leaves, wrong_length_leaves, right_lengths}
use Rattle.text.specs.declared.Page.{Page}
use Rattle.text.specs.Put.{overwritten, AddsOn}
use Rattle.report_text.specs.Report.{refusal_line, pair_lines, refined_report, read_report, report_of, Reported}
use Rattle.report_text.specs.declared.Stated.{Stated}
use Rattle.report_text.specs.Inner.{InFront, report_by, Reports}
use Rattle.report_text.proofs.Short.{refusal-short}

-- ---- from a text that was put to the report

-- a page from the beginning of a buffer on that has room for every report
pub record Begun (page : Page) : Type 0 where
  pub beginning : page.at ≡ 0
  pub long : 131072 ≤ length page.buffer.now

pub reported : {scene text : List ℕ} {page page' : Page} → Begun page → report_of scene ≡ text → Reports text page page'
    → Reported scene page.buffer.now page'.buffer.now page'.at
unfolding overwritten laid
reported {scene} {text} {page} {page'} b e r =
    let buffer : List ℕ = page.buffer.now in
    let room : page.at + length text ≤ length buffer = omega (arith, b.beginning, b.long, r.short) in
    let size : page'.at ≡ length text = omega (arith, r.adds.adds.behind room, b.beginning) in
    record {
      size = rw e size;
      text = rw (e, size, take_all (length text) text (omega arith))
          (r.adds.adds.written room ∙ rw b.beginning (ap (λ (k : ℕ). text ++ drop k buffer) (zero-add (length text))));
    }

-- the report is a part of the buffer
pub reported_within : {scene buffer buffer' : List ℕ} {count : ℕ} → Reported scene buffer buffer' count → count ≤ length buffer'
unfolding laid
reported_within {scene} {buffer} {buffer'} {count} r =
    omega (
      arith,
      ap length r.text,
      length-append (take count (report_of scene)) (drop count buffer),
      length-take count (report_of scene),
      r.size,
    )

-- the areas that the report reads a scene into
abbrev pub blank : Areas
blank = holding (replicate 64 0) (replicate 4096 0) (replicate 4096 0)

blank_lent : Lent blank
blank_lent = record {
  identifiers-long = length-replicate {A = ℕ} 64 0;
  cells-long = length-replicate {A = ℕ} 4096 0;
  marks-long = length-replicate {A = ℕ} 4096 0;
}

-- ---- an accepted scene

abbrev pub AcceptedScene : List ℕ → List ℕ → List ℕ → List ℕ → ℕ → Type 0
AcceptedScene scene identifiers cells marks n = AcceptedLeaves scene blank (holding identifiers cells marks) n

pub accepted_read : {scene identifiers cells marks : List ℕ} {reading : Result ℕ Unread} {n : ℕ}
    → Reads scene blank (holding identifiers cells marks) reading → reading ≡ Ok n → AcceptedScene scene identifiers cells marks n
accepted_read {scene} {identifiers} {cells} {marks} r e = accepted-leaves (subst (Reads scene blank (holding identifiers cells marks)) e r)

-- the cells in front are the stated ones
module _ {scene identifiers cells marks : List ℕ} {n : ℕ} (a : AcceptedScene scene identifiers cells marks n) where
  pub cells-few : n * n ≤ 4096
  cells-few = mul-le-mul a.few a.few

  pub stated_front : Square n (take (n * n) cells)
  stated_front = record {
    some = a.some;
    few = a.few;
    size = ap length a.cells_front ∙ length-grid n (stated_cell starting_cell a.said.statements);
  }

  -- and so are their marks
  pub marks_front : Square n (take (n * n) marks)
  marks_front = record {
    some = a.some;
    few = a.few;
    size = ap length a.marks_front ∙ length-grid n (mark_of starting_cell a.said.statements);
  }

-- ---- identifiers and the zeros behind them

module _ (n : ℕ) (one other stated marks : List ℕ) (same : (k : ℕ) → get_or one k 0 ≡ get_or other k 0) where
  same_pairs : (arcs network : List ℕ) (count : ℕ) → pair_lines count n one arcs network marks ≡ pair_lines count n other arcs network marks
  unfolding pair_lines
  same_pairs arcs network zero = refl
  same_pairs arcs network (suc count) = rw (same_pairs arcs network count, same (row n count), same (column n count))

  pub same_report : (ending : Ending (List ℕ)) → refined_report n one stated marks ending ≡ refined_report n other stated marks ending
  same_report (accepted network count) = rw (same_pairs (prepared n stated) network (n * n))
  same_report (refused x) = rw (same x.first, same x.second, same x.third)

pub accepted_reported : {scene identifiers cells marks : List ℕ} {s : Stated} {page page' : Page} {n : ℕ}
    → AcceptedScene scene identifiers cells marks n → InFront n identifiers cells marks s → Begun page
    → Reports (report_by s (refine s.n s.cells.now)) page page' → Reported scene page.buffer.now page'.buffer.now page'.at
unfolding report_of
accepted_reported {scene} {identifiers} {cells} {marks} {s} {n = n} a f begun r =
    let stated : List ℕ = grid n (stated_cell starting_cell a.said.statements) in
    let marked : List ℕ = grid n (mark_of starting_cell a.said.statements) in
    let same : read_report (accepted_said a.said) ≡ report_by s (refine s.n s.cells.now) =
    rw (a.counted, f.regions, f.named, f.stated, f.marked, a.cells_front, a.marks_front, a.identifiers_are)
    (sym (same_report n (padded 64 a.said.identifiers) a.said.identifiers stated marked (padded-same 64 a.said.identifiers) (refine n stated))) in
    reported begun (ap read_report a.alone ∙ same) r

-- ---- a refused scene

refused_reported : {scene : List ℕ} {page page' : Page} (number offset : ℕ) → read_scene scene ≡ refused_at number offset → Begun page
    → AddsOn (refusal_line number offset 0 0) page page' → Reported scene page.buffer.now page'.buffer.now page'.at
unfolding report_of
refused_reported number offset e begun adds =
    reported begun (ap read_report e) (record { adds = adds; short = omega (arith, refusal-short number offset 0 0) })

-- the areas have the right lengths
pub never_wrong : {scene identifiers cells marks : List ℕ} → Reads scene blank (holding identifiers cells marks) (Err WrongLength) → ⊥
never_wrong {scene} r = right_lengths scene blank_lent (wrong_length_leaves r).ending

-- the line of a refusal's numbers
abbrev pub numbers_line : Answer → List ℕ
numbers_line a = refusal_line a.number a.first a.second a.third

pub told_line : {numbers : Numbers} {a : Answer} {page page' : Page} → told numbers ≡ a
    → AddsOn (refusal_line numbers.number numbers.first numbers.second numbers.third) page page' → AddsOn (numbers_line a) page page'
told_line {page = page} {page' = page'} e adds = subst (λ (a : Answer). AddsOn (numbers_line a) page page') e adds

-- the line of any refusal
pub unread_reported : {scene identifiers cells marks : List ℕ} {page page' : Page} (unread : Unread)
    → Reads scene blank (holding identifiers cells marks) (Err unread) → Begun page
    → AddsOn (numbers_line (answer_of (Err unread))) page page' → Reported scene page.buffer.now page'.buffer.now page'.at
unread_reported WrongLength r begun adds = absurd (never_wrong r)
unread_reported {scene} TooLong r begun adds =
    refused_reported 3 most_bytes (sym (right-areas scene blank_lent) ∙ (too_long_leaves r).ending) begun adds
unread_reported {scene} (Refused refusal offset) r begun adds =
    refused_reported (number_of refusal) offset (sym (right-areas scene blank_lent) ∙ (refused_leaves r).ending) begun adds
