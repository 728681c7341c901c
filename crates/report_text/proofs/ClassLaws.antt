-- The classes by the documents' rule: one and only one of its five lines holds of a pair, and that is the class.
use mathlib.Core.Path.{◌≡◌, sym, ◌∙◌, subst}
use mathlib.Core.List.{List}
use Prim.Native.Nat.{ℕ, ◌<◌}
use native.Mathlib.Omega.{arith}
use borrow.Author.Tests.{lt-ltb, le-ltb, eq-eqb, ne_eqb}
use Rattle.lists.proofs.Splits.{split_lt, split_eq}
use Rattle.answer.specs.Ending.{accepted}
use Rattle.relation.specs.Sets.{size}
use Rattle.relation.proofs.Size.{size-within, size-some, size-most}
use Rattle.matrix.specs.Cells.{cell}
use Rattle.refinement.specs.Network.{Network}
use Rattle.refinement.specs.Ends.{Ends}
use Rattle.refinement.specs.Prepare.{prepared}
use Rattle.refinement.specs.Refine.{refine}
use Rattle.refinement.proofs.Stages.{network-bytes}
use Rattle.refinement.proofs.ArcStage.{network-prepared}
use Rattle.refinement.proofs.Ending.{refine_ends}
use Rattle.report_text.specs.Class.{class_of}
use Rattle.report_text.specs.Report.{letter}
use Rattle.report_text.specs.Rule.{Rule, Occur, is-observed, is-determined, is-enhanced, is_as_stated, is-unknown}

-- a line that holds gives the class
pub rule_class : (s f class : ℕ) → Rule s f class → class ≡ class_of s f
unfolding class_of
rule_class s f class (is-observed e) = rw (eq-eqb s 1 e)
rule_class s f class (is-determined e h) = rw (ne_eqb s 1 (λ q. omega arith), eq-eqb f 1 e)
rule_class s f class (is-enhanced h l) = rw (ne_eqb s 1 (λ q. omega arith), ne_eqb f 1 (λ q. omega arith), lt-ltb f s h)
rule_class s f class (is_as_stated e h l) =
    rw (ne_eqb s 1 (λ q. omega arith), ne_eqb f 1 (λ q. omega arith), le-ltb f s (omega arith), lt-ltb f 8 l)
rule_class s f class (is-unknown e q) = rw (e, q)

-- no two lines with different letters hold
pub rule_one : {s f class other : ℕ} → Rule s f class → Rule s f other → class ≡ other
rule_one {s} {f} {class} {other} p q = rule_class s f class p ∙ sym (rule_class s f other q)

-- and of the sizes that occur one line holds
pub sizes-rule : {s f : ℕ} → Occur s f → Rule s f (class_of s f)
unfolding class_of
sizes-rule {s} {f} o =
    split_eq s 1 (λ e. rw (eq-eqb s 1 e) (is-observed e))
    (λ n. split_eq f 1 (λ e. rw (ne_eqb s 1 n, eq-eqb f 1 e) (is-determined e (omega (arith, o.some, o.within))))
    (λ m. split_lt f s (λ l. rw (ne_eqb s 1 n, ne_eqb f 1 m, lt-ltb f s l) (is-enhanced l (omega (arith, o.some))))
    (λ l. split_lt f 8
    (λ h. rw (ne_eqb s 1 n, ne_eqb f 1 m, le-ltb f s l, lt-ltb f 8 h)
    (is_as_stated (omega (arith, o.within)) (omega (arith, o.some)) h))
    (λ h. rw (ne_eqb s 1 n, ne_eqb f 1 m, le-ltb f s l, le-ltb f 8 h)
    (is-unknown (omega (arith, o.within, o.most)) (omega (arith, o.within, o.most)))))))

-- ---- an accepted matrix

module _ (n : ℕ) (stated : List ℕ) {network : List ℕ} {rounds : ℕ} (ending : refine n stated ≡ accepted network rounds)
    (i j : ℕ) (hi : i < n) (hj : j < n) where
  N : Network n stated network
  N = (subst (Ends n stated) ending (refine_ends n stated)).largest.network

  -- with s the size after the arc rule and f the refined size, 1 ≤ f ≤ s ≤ 8
  pub sizes_occur : Occur (size (cell n (prepared n stated) i j)) (size (cell n network i j))
  sizes_occur = record {
    some = size-some (cell n network i j) ((network-bytes N).byte i j hi hj) (N.filled i j hi hj);
    within = size-within ((network-prepared N).cells i j hi hj);
    most = size-most (cell n (prepared n stated) i j);
  }

  -- and the letter is the rule's
  pub class_rule : Rule (size (cell n (prepared n stated) i j)) (size (cell n network i j)) (letter n (prepared n stated) network i j)
  class_rule = sizes-rule sizes_occur
