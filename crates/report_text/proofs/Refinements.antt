-- The report of a refinement, by its verdict.
use mathlib.Core.Path.{◌≡◌, sym, ap, ◌∙◌, subst}
use mathlib.Core.List.{List}
use Prim.Native.Nat.{ℕ, ◌*◌, ◌≤◌, ◌<◌}
use native.Mathlib.Nat.{mul-le-mul}
use native.Mathlib.Omega.{arith}
use lib.ListN.{length, get_or, take, replicate, length-replicate, get_or-eq_default}
use lib.Seq.{take_all}
use Rattle.lists.proofs.Splits.{split_lt}
use Rattle.lists.proofs.LaidLaws.{take-laid}
use Rattle.std.proofs.Common.{Ok, Err}
use Rattle.answer.specs.Answer.{Answer}
use Rattle.answer.specs.Ending.{Ending, accepted}
use Rattle.matrix.proofs.CellLaws.{by_cell}
use Rattle.matrix.specs.Square.{Square}
use Rattle.refinement.specs.InRange.{InRange}
use Rattle.refinement.specs.Node.{node}
use Rattle.refinement.specs.Prepare.{prepared}
use Rattle.refinement.specs.Refine.{refine}
use Rattle.refinement.specs.Run.{readied}
use Rattle.refinement.specs.Ends.{Ends}
use Rattle.refinement.proofs.Stages.{length-arc, network-bytes}
use Rattle.refinement.proofs.Ending.{refine_ends}
use Rattle.refinement.proofs.Readied.{accepted-readied, readied-ending}
use Rattle.network.specs.declared.Accepted.{Accepted}
use Rattle.network.specs.declared.Unrefined.{Unrefined}
use Rattle.network.specs.declared.Unrefined.TheVariants.{Refused, Unfinished, Unprepared, OutOfRange, WrongLength}
use Rattle.network.specs.Verdict.{Verdict, Start}
use Rattle.network.specs.Numbers.{answer_of}
use Rattle.network.specs.Carries.{Carries}
use Rattle.network.specs.Refined.{Refined, leaves}
use Rattle.network.specs.Prepared.{Prepared}
use Rattle.network.specs.Handed.{Handed}
use Rattle.network.proofs.Consequences.{refine_carries}
use Rattle.text.specs.declared.Page.{Page}
use Rattle.text.specs.Put.{AddsOn}
use Rattle.text.proofs.PutLaws.{adds-adds}
use Rattle.report_text.specs.declared.Stated.{Stated}
use Rattle.report_text.specs.Report.{accepted_line, pair_lines, name_of, answer_line}
use Rattle.report_text.specs.Contradicts.{Contradicts}
use Rattle.report_text.specs.Inner.{report_by, Reports}
use Rattle.report_text.proofs.LineLaws.{renamed}
use Rattle.report_text.proofs.Short.{refusal-short, accepted_report_short}
use Rattle.report_text.proofs.Verdicts.{HandedBack, handed-back, refused_report, contradicted}

pub answer-short : (identifiers : List ℕ) (a : Answer) → length (answer_line identifiers a) ≤ 131072
answer-short identifiers a =
    let number : ℕ = a.number in
    omega (
      arith,
      refusal-short number (name_of identifiers number 1 a.first) (name_of identifiers number 2 a.second) (name_of identifiers number 3 a.third),
    )

-- the two areas of the call
abbrev pub area : List ℕ
area = replicate 4096 0

pub stated_so : (s : Stated) → Square s.n s.cells.now
stated_so s = record { some = s.some; few = s.few; size = s.cells_square }

-- which are long enough
pub lent_range : {n : ℕ} {stated : List ℕ} → Square n stated → InRange n stated (length area) (length area)
lent_range {n} s =
    let long : n * n ≤ length area = omega (arith, length-replicate {A = ℕ} 4096 0, mul-le-mul s.few s.few) in
    record { square = s; first-long = long; second-long = long }

-- a call within its limits is only ever refused for a contradiction
carries-contradicts : (n : ℕ) (unrefined : Unrefined) → Carries n (Err unrefined) → Contradicts unrefined
carries-contradicts n (Refused contradiction rounds) c = tt
carries-contradicts n (Unfinished rounds named) c = c
carries-contradicts n Unprepared c = c
carries-contradicts n OutOfRange c = c
carries-contradicts n WrongLength c = c

module _ (s : Stated) {first' second' : List ℕ} {verdict : Verdict} (v : Refined s.n s.cells.now area area first' second' verdict) where
  range : InRange s.n s.cells.now (length area) (length area)
  range = lent_range (stated_so s)

  -- the network that an acceptance hands back
  pub accepted-network : {outcome : Accepted} {part : List ℕ} {at_first at_second at_part : ℕ × ℕ}
      → verdict ≡ Ok outcome → Handed first' second' at_first at_second (Ok outcome) part at_part
      → HandedBack s.n s.cells.now outcome.rounds part
  accepted-network {part = part} {at_first = at_first} {at_second = at_second} {at_part = at_part} e h =
      let back : Handed first' second' at_first at_second verdict part at_part = rw e h in handed-back range v e back

  pub refused_contradicts : {unrefined : Unrefined} → verdict ≡ Err unrefined → Contradicts unrefined
  refused_contradicts {unrefined} e = carries-contradicts s.n unrefined (subst (Carries s.n) e (refine_carries range v))

  pub contradiction_reports : {unrefined : Unrefined} {page page' : Page} → verdict ≡ Err unrefined
      → AddsOn (answer_line s.identifiers.now (answer_of (Err unrefined))) page page' → Reports (report_by s (refine s.n s.cells.now)) page page'
  contradiction_reports {unrefined} e a =
      let same = refused_report range (subst (Refined s.n s.cells.now area area first' second') e v) s.identifiers.now s.marks.now
      (contradicted unrefined (refused_contradicts e)) in
      record {
        adds = renamed same a;
        short = subst (λ (t : List ℕ). length t ≤ 131072) same (answer-short s.identifiers.now (answer_of (Err unrefined)));
      }

-- every cell of a network is a byte, and so is what counts past its end
pub small-sets : {n : ℕ} {stated : List ℕ} {rounds : ℕ} {network : List ℕ} → HandedBack n stated rounds network → (k : ℕ) → get_or network k 0 < 256
small-sets {n} {network = network} w k =
    split_lt k (n * n) (λ h. by_cell n (λ (p : ℕ). get_or network p 0 < 256) (network-bytes w.largest.network).byte k h)
    (λ h. rw (get_or-eq_default network 0 {n = k} (omega (arith, w.largest.network.size))) (omega arith))

-- ---- an acceptance

module _ (s : Stated) {network : List ℕ} {rounds : ℕ} (ending : refine s.n s.cells.now ≡ accepted network rounds) where
  pub cells-few : s.n * s.n ≤ 4096
  cells-few = mul-le-mul s.few s.few

  pub network-square : length network ≡ s.n * s.n
  network-square = (subst (Ends s.n s.cells.now) ending (refine_ends s.n s.cells.now)).largest.network.size

  module _ {first' second' : List ℕ} {start : Start} (prepares : Prepared s.n s.cells.now area area first' second' start) where
    -- prepared, the first area has the arc stage in front
    pub arcs_front : take (s.n * s.n) first' ≡ prepared s.n s.cells.now
    unfolding leaves
    arcs_front =
        let n : ℕ = s.n in
        let stated : List ℕ = s.cells.now in
        let size : length (prepared n stated) ≡ n * n = length-arc n (node n stated) in
        let ended : readied n stated (length area) (length area) ≡ accepted (prepared n stated) 0 =
        readied-ending n stated (length area) (length area) (accepted-readied (lent_range (stated_so s)) ending) in
        ap (take (n * n)) (prepares.in_first ∙ ap (λ (e : Ending (List ℕ)). leaves n e area) ended)
        ∙ take-laid (n * n) (prepared n stated) area (omega (arith, size))
        ∙ take_all (n * n) (prepared n stated) (omega (arith, size))

    pub arcs-square : length (take (s.n * s.n) first') ≡ s.n * s.n
    arcs-square = ap length arcs_front ∙ length-arc s.n (node s.n s.cells.now)

    -- the first line, and the lines of the pairs
    pub network-adds : {p₀ p₁ p₂ : Page} → AddsOn (accepted_line s.n rounds) p₀ p₁
        → AddsOn (pair_lines (s.n * s.n) s.n s.identifiers.now (take (s.n * s.n) first') network s.marks.now) p₁ p₂
        → AddsOn (report_by s (accepted network rounds)) p₀ p₂
    network-adds p q = adds-adds p (rw (← arcs_front) q)

-- its report
pub accepted_reports : (s : Stated) {rounds : ℕ} {network : List ℕ} {page page' : Page}
    → HandedBack s.n s.cells.now rounds network → AddsOn (report_by s (accepted network rounds)) page page'
    → Reports (report_by s (refine s.n s.cells.now)) page page'
accepted_reports s {rounds} {network} w adds =
    let same = ap (report_by s) w.ending in
    record {
      adds = renamed (sym same) adds;
      short = rw same
          (accepted_report_short s.n s.identifiers.now (prepared s.n s.cells.now) network s.marks.now
          (record { identifiers-small = s.identifiers_fit; sets-small = small-sets w; marks-small = s.marks_fit }) rounds s.few);
    }
