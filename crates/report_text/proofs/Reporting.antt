-- The report in any buffer: what Refinements and Readings say of what was stated on a page, of any identifiers, cells and marks.
use mathlib.Core.Path.{◌≡◌, sym, ap, ◌∙◌, subst}
use mathlib.Core.List.{List, ◌++◌}
use Prim.Native.Nat.{ℕ, ◌+◌, ◌*◌, ◌≤◌, ◌<◌}
use native.Mathlib.Nat.{zero-add, mul-le-mul}
use native.Mathlib.Omega.{arith}
use lib.ListN.{length, get_or, take, drop}
use lib.Seq.{take_all}
use Rattle.std.proofs.Common.{Err}
use Rattle.lists.specs.Laid.{laid}
use Rattle.answer.specs.Ending.{accepted}
use Rattle.matrix.specs.Square.{Square}
use Rattle.matrix.specs.Cells.{grid}
use Rattle.refinement.specs.InRange.{InRange}
use Rattle.refinement.specs.Prepare.{prepared}
use Rattle.refinement.specs.Refine.{refine}
use Rattle.refinement.specs.Ends.{Ends}
use Rattle.refinement.specs.declared.Contradiction.{Contradiction}
use Rattle.refinement.proofs.Ending.{refine_ends}
use Rattle.network.specs.declared.Area.{Area}
use Rattle.network.specs.declared.Unrefined.TheVariants.{Refused}
use Rattle.network.specs.Verdict.{Verdict, acceptance}
use Rattle.network.specs.Numbers.{answer_of}
use Rattle.network.specs.Refined.{Refined}
use Rattle.network.specs.Handed.{Handed}
use Rattle.filing.specs.Stated.{stated_cell}
use Rattle.filing.specs.Marks.{mark_of}
use Rattle.filing.specs.Areas.{padded}
use Rattle.filing.proofs.Padded.{padded-same}
use Rattle.scene.specs.Reading.{accepted_said, refused_at, read_scene}
use Rattle.scene.specs.Reads.{starting_cell}
use Rattle.text.specs.Put.{overwritten, Adds}
use Rattle.report_text.specs.Report.{refusal_line, answer_line, refined_report, read_report, report_of, Reported}
use Rattle.report_text.proofs.Adding.{renamed}
use Rattle.report_text.proofs.Short.{refusal-short, accepted_report_short}
use Rattle.report_text.proofs.Verdicts.{HandedBack, handed-back, refused_report, contradiction_line, contradicted}
use Rattle.report_text.proofs.Refinements.{answer-short, area, lent_range, small-sets}
use Rattle.report_text.proofs.Readings.{AcceptedScene, same_report}

-- a report stands at the beginning of the buffer where there is room for it, and it is never longer than a buffer
pub record Reports (text buffer buffer' : List ℕ) (next : ℕ) : Type 0 where
  pub adds : Adds text buffer 0 buffer' next
  pub short : length text ≤ 131072

-- ---- of a refinement

-- what the call is made with: the stated cells, identifiers of 32 bits and marks of 16
pub record Call (n : ℕ) (identifiers stated marks : List ℕ) : Type 0 where
  pub stated_so : Square n stated
  pub identifiers-small : (k : ℕ) → get_or identifiers k 0 < 4294967296
  pub marks-small : (k : ℕ) → get_or marks k 0 < 65536

module _ {n : ℕ} {identifiers stated marks first' second' : List ℕ} {verdict : Verdict} (c : Call n identifiers stated marks)
    (v : Refined n stated area area first' second' verdict) where
  range : InRange n stated (length area) (length area)
  range = lent_range c.stated_so

  -- the network that an acceptance hands back
  pub accepted-network : {regions rounds : ℕ} {named : Area} {part : List ℕ} {at_first at_second at_part : ℕ × ℕ}
      → verdict ≡ acceptance regions rounds named → Handed first' second' at_first at_second (acceptance regions rounds named) part at_part
      → HandedBack n stated rounds part
  accepted-network {part = part} {at_first = at_first} {at_second = at_second} {at_part = at_part} e h =
      let back : Handed first' second' at_first at_second verdict part at_part = rw e h in handed-back range v e back

  -- any other verdict's line
  pub refused_reports : {other : Verdict} {b₀ b₁ : List ℕ} {next : ℕ} → verdict ≡ other → ((answer_of other).number ≡ 0 → ⊥)
      → Adds (answer_line identifiers (answer_of other)) b₀ 0 b₁ next
      → Reports (refined_report n identifiers stated marks (refine n stated)) b₀ b₁ next
  refused_reports {other} e z a =
      let same = refused_report range (subst (Refined n stated area area first' second') e v) identifiers marks z in
      record {
        adds = renamed same a;
        short = subst (λ (t : List ℕ). length t ≤ 131072) same (answer-short identifiers (answer_of other));
      }

  pub contradiction_reports : {contradiction : Contradiction} {rounds : ℕ} {b₀ b₁ : List ℕ} {next : ℕ}
      → verdict ≡ Err (Refused contradiction rounds) → Adds (answer_line identifiers (answer_of (Err (Refused contradiction 0)))) b₀ 0 b₁ next
      → Reports (refined_report n identifiers stated marks (refine n stated)) b₀ b₁ next
  contradiction_reports {contradiction} {rounds} e a =
      refused_reports e (contradicted (Refused contradiction rounds) tt) (renamed (contradiction_line identifiers contradiction rounds) a)

-- ---- of an acceptance

-- the cells of n regions after the arc rule, and a refined cell and a mark for each
pub record Paired (n : ℕ) (arcs network marks : List ℕ) : Type 0 where
  pub regions : Square n arcs
  pub refined : length network ≡ n * n
  pub marked : length marks ≡ n * n

-- what is known of an accepted matrix
pub record AcceptedMatrix (n : ℕ) (stated network : List ℕ) (rounds : ℕ) : Type 0 where
  pub stated_so : Square n stated
  pub ending : refine n stated ≡ accepted network rounds

module _ {n : ℕ} {stated network : List ℕ} {rounds : ℕ} (a : AcceptedMatrix n stated network rounds) where
  pub cells-few : n * n ≤ 4096
  cells-few = mul-le-mul a.stated_so.few a.stated_so.few

  -- n² cells and n² marks beside the cells of the network
  pub network_paired : {cells marks : List ℕ} → length cells ≡ n * n → length marks ≡ n * n → Paired n cells network marks
  network_paired long marked = record {
    regions = record { some = a.stated_so.some; few = a.stated_so.few; size = long };
    refined = (subst (Ends n stated) a.ending (refine_ends n stated)).largest.network.size;
    marked = marked;
  }

-- its report
pub accepted_reports : {n : ℕ} {identifiers stated marks : List ℕ} {rounds : ℕ} {network b₀ b₁ : List ℕ} {next : ℕ}
    → Call n identifiers stated marks → HandedBack n stated rounds network
    → Adds (refined_report n identifiers stated marks (accepted network rounds)) b₀ 0 b₁ next
    → Reports (refined_report n identifiers stated marks (refine n stated)) b₀ b₁ next
accepted_reports {n} {identifiers} {stated} {marks} {rounds} {network} c w adds =
    let same = ap (refined_report n identifiers stated marks) w.ending in
    record {
      adds = renamed (sym same) adds;
      short = rw same
          (accepted_report_short n identifiers (prepared n stated) network marks
          (record { identifiers-small = c.identifiers-small; sets-small = small-sets w; marks-small = c.marks-small }) rounds c.stated_so.few);
    }

-- ---- of a reading

pub reported : {scene buffer buffer' text : List ℕ} {count : ℕ} → 131072 ≤ length buffer → report_of scene ≡ text → Reports text buffer buffer' count
    → Reported scene buffer buffer' count
unfolding overwritten laid
reported {scene} {buffer} {buffer'} {text} {count} long e r =
    let room : 0 + length text ≤ length buffer = omega (arith, r.short) in
    let size : count ≡ length text = r.adds.behind room ∙ zero-add (length text) in
    record {
      size = rw e size;
      text = rw (e, size, take_all (length text) text (omega arith))
          (r.adds.written room ∙ ap (λ (k : ℕ). text ++ drop k buffer) (zero-add (length text)));
    }

pub accepted_reported : {scene identifiers cells marks buffer buffer' : List ℕ} {n count : ℕ} → AcceptedScene scene identifiers cells marks n
    → 131072 ≤ length buffer
    → Reports (refined_report n identifiers (take (n * n) cells) (take (n * n) marks) (refine n (take (n * n) cells))) buffer buffer' count
    → Reported scene buffer buffer' count
unfolding report_of
accepted_reported {scene} {identifiers} {cells} {marks} {n = n} a long r =
    let stated : List ℕ = grid n (stated_cell starting_cell a.said.statements) in
    let marked : List ℕ = grid n (mark_of starting_cell a.said.statements) in
    let same : read_report (accepted_said a.said) ≡ refined_report n identifiers (take (n * n) cells) (take (n * n) marks) (refine n (take (n * n) cells)) =
    rw (a.counted, a.cells_front, a.marks_front, a.identifiers_are)
    (sym (same_report n (padded 64 a.said.identifiers) a.said.identifiers stated marked (padded-same 64 a.said.identifiers) (refine n stated))) in
    reported long (ap read_report a.alone ∙ same) r

pub refused_reported : {scene buffer buffer' : List ℕ} {count : ℕ} (number offset : ℕ) → read_scene scene ≡ refused_at number offset
    → 131072 ≤ length buffer → Adds (refusal_line number offset 0 0) buffer 0 buffer' count → Reported scene buffer buffer' count
unfolding report_of
refused_reported number offset e long adds =
    reported long (ap read_report e) (record { adds = adds; short = omega (arith, refusal-short number offset 0 0) })
