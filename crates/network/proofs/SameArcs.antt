-- The arc stage decides about the call too: of matrices that agree after the arc rule it answers and leaves the same.
use mathlib.Core.Path.{◌≡◌, sym, ap, ap₂, ◌∙◌}
use mathlib.Core.Bool.{Bool, not, ◌&&◌}
use mathlib.Core.List.{List}
use Prim.Native.Nat.{ℕ, ◌*◌}
use borrow.Fn.Kinds.{Dens, res_t, ended_of}
use contract.Lifetimes.{Lfts}
use denote.Triple.Clauses.{AtExit}
use lib.Dec.{eqb, leb}
use lib.ListN.{length}
use Rattle.answer.specs.Answer.{answer}
use Rattle.answer.specs.Ending.{Ending, refused, answered, stop}
use Rattle.matrix.specs.Square.{in_range, has_square}
use Rattle.refinement.specs.Prepare.{prepared}
use Rattle.refinement.specs.Refine.{refined}
use Rattle.refinement.proofs.ArcStage.{same_refinement}
use Rattle.network.specs.Verdict.{Verdict}
use Rattle.network.specs.Refined.{Refined, leaves}
use Rattle.network.proofs.Verdicts.{one_verdict}
use Rattle.network.proofs.refine.Kinds as refining
use Rattle.network.proofs.refine.Reads.{Post as Refines}

module _ (n : ℕ) (one other : List ℕ) (long : length one ≡ length other) (arcs : prepared n one ≡ prepared n other) where
  same-refined : (first second : ℕ) → refined n one first second ≡ refined n other first second
  unfolding refined has_square
  same-refined first second =
      ap₂ (λ (square : Bool) (ending : Ending (List ℕ)). stop (not (in_range n)) (refused (answer 1 0 0 0 0))
      (λ _. stop (not (square && (leb (n * n) first && leb (n * n) second))) (refused (answer 2 0 0 0 0)) (λ _. ending)))
      (ap (λ (cells : ℕ). eqb cells (n * n)) long)
      (same_refinement n one other arcs)

  pub same_arcs_refined : {first second first' second' first'' second'' : List ℕ} {verdict verdict' : Verdict}
      → Refined n one first second first' second' verdict → Refined n other first second first'' second'' verdict'
      → (verdict ≡ verdict') × (first' ≡ first'') × (second' ≡ second'')
  same_arcs_refined {first} {second} {verdict = verdict} {verdict' = verdict'} p q =
      let same : refined n one (length first) (length second) ≡ refined n other (length first) (length second) =
      same-refined (length first) (length second) in (
        one_verdict n (answered (refined n other (length first) (length second))) verdict verdict' p.names q.names
            (p.answer ∙ ap answered same) q.answer,
        p.in_first ∙ ap (λ (e : Ending (List ℕ)). leaves n e first) same ∙ sym q.in_first,
        p.in_second ∙ ap (λ (e : Ending (List ℕ)). leaves n e second) same ∙ sym q.in_second,
      )

-- about two calls with the same n and areas that hold the same
pub same_arcs_calls : (κs μs : Lfts 3) (a : Dens κs refining.ps) (b : Dens μs refining.ps)
    (r : (res_t refining.r κs).Denot) (r' : (res_t refining.r μs).Denot)
    (s : AtExit (ended_of 3 refining.ps refining.r) κs) (t : AtExit (ended_of 3 refining.ps refining.r) μs)
    → Refines κs a r s → Refines μs b r' t → b.0 ≡ a.0 → length a.1.0.now ≡ length b.1.0.now
    → prepared a.0 a.1.0.now ≡ prepared a.0 b.1.0.now
    → b.1.1.0.now ≡ a.1.1.0.now → b.1.1.1.0.now ≡ a.1.1.1.0.now
    → (r ≡ r') × (s.1.1.0.now ≡ t.1.1.0.now) × (s.1.1.1.0.now ≡ t.1.1.1.0.now)
same_arcs_calls κs μs a b r r' s t p q n long arcs first second =
    same_arcs_refined a.0 a.1.0.now b.1.0.now long arcs p (rw (n, first, second) at q)
