-- Every ending is right, and the limit on rounds is never what ends them.
use mathlib.Core.Path.{◌≡◌, refl, sym, ap, ◌∙◌, subst}
use mathlib.Core.List.{List}
use Prim.Native.Nat.{ℕ, zero, suc, ◌+◌, ◌*◌, ◌≤◌, ◌<◌}
use native.Mathlib.Omega.{arith}
use lib.ListN.{length}
use Rattle.lists.proofs.Splits.{split_lt}
use Rattle.relation.specs.Relations.{equal}
use Rattle.relation.specs.Sets.{only, empty}
use Rattle.relation.specs.Converse.{converse}
use Rattle.relation.proofs.ConverseLaws.{converse-empty}
use Rattle.matrix.specs.Cells.{cell}
use Rattle.matrix.proofs.CellLaws.{place_above}
use Rattle.refinement.specs.declared.Step.{Step}
use Rattle.refinement.specs.Node.{node}
use Rattle.refinement.specs.Arc.{arc}
use Rattle.refinement.specs.Prepare.{Preparation, prepared}
use Rattle.refinement.specs.Round.{round}
use Rattle.refinement.specs.Refine.{most_rounds, stepped, rounds, all_rounds, started, refine}
use Rattle.refinement.specs.Plain.{Plain}
use Rattle.refinement.specs.Network.{Below, Network}
use Rattle.refinement.specs.Ends.{Ends, a_region, a_pair, a_triple}
use Rattle.refinement.proofs.Stages.{below_trans, empty_shuts, length-arc, length-round, round-cell, node-below, arc-below, round-below, network-plain, network-node, network-arc, network-round, node_done, arc-diagonal, arc-opposite, arc_done, fixed_network}
use Rattle.refinement.proofs.RanOut.{three_differ}
use Rattle.refinement.proofs.Slack.{slack, slack_most}
use Rattle.refinement.proofs.Preparing.{by_preparation}
use Rattle.refinement.proofs.Stepping.{by_step}
use Rattle.refinement.proofs.Loop.{Falls, moves_falls}

-- ---- the rounds

rounds-end : (n : ℕ) (m : List ℕ) (more count : ℕ) (old : List ℕ) → length old ≡ n * n → Plain n old → Below n old m
    → ((v : List ℕ) → Network n m v → Below n v old)
    → slack n old < more → count + slack n old ≤ most_rounds n
    → Ends n m (rounds more n count old)
unfolding rounds
rounds-end n m zero count old l P B G f c = absurd (omega arith)
rounds-end n m (suc more) count old l P B G f c =
    let new : List ℕ = round n old in
    let lower : (v : List ℕ) → Network n m v → Below n v new = λ v N. network-round old N (G v N) in
    by_step (λ (s : Step). Ends n m (stepped s count old (λ _. rounds more n (suc count) new))) n old
    (λ i j e. record {
      none = λ v N.
          empty_shuts n new i j e.first e.last (round-cell n old i j e.first e.last ∙ e.empties) v (lower v N)
          (network-plain N).full;
      names = a_triple
          (record { number = refl; three = three_differ n old i j P e.first e.last e.empties; few = omega arith });
    })
    (λ r. record {
      largest = record { network = fixed_network n m old l P B r.same; contains = G };
      few = omega arith;
    })
    (λ g.
    let s : Falls n old = moves_falls n old P g in
    rounds-end n m more (suc count) new (length-round n old) s.plain (below_trans n (round-below n old P) B) lower
    (omega (arith, s.less)) (omega (arith, s.less)))

-- how many rounds may still be made does not matter, once they are more than there is to lose
pub rounds_any : (n more other count : ℕ) (old : List ℕ) → Plain n old → slack n old < more → slack n old < other
    → rounds more n count old ≡ rounds other n count old
unfolding rounds
rounds_any n zero other count old P f g = absurd (omega arith)
rounds_any n (suc more) zero count old P f g = absurd (omega arith)
rounds_any n (suc more) (suc other) count old P f g =
    let new : List ℕ = round n old in
    by_step
    (λ (s : Step).
    stepped s count old (λ _. rounds more n (suc count) new) ≡ stepped s count old (λ _. rounds other n (suc count) new))
    n old
    (λ i j e. refl)
    (λ r. refl)
    (λ m.
    let s : Falls n old = moves_falls n old P m in
    rounds_any n more other (suc count) new s.plain (omega (arith, s.less)) (omega (arith, s.less)))

-- so the limit is never what ends them: every larger one gives the same ending
pub all_rounds_any : (n more : ℕ) (old : List ℕ) → Plain n old → most_rounds n < more → rounds more n 0 old ≡ all_rounds n old
all_rounds_any n more old P h =
    rounds_any n more (suc (most_rounds n)) 0 old P (omega (arith, slack_most n old)) (omega (arith, slack_most n old))

-- ---- the whole

-- the first cell that the arc rule leaves empty stands above the diagonal
arc-order : (n : ℕ) (a : List ℕ) → ((i : ℕ) → i < n → cell n a i i ≡ only equal) → (i j : ℕ) → i < n → j < n
    → cell n (arc n a) i j ≡ empty → (j < i → cell n (arc n a) j i ≡ empty → ⊥) → i < j
arc-order n a D i j hi hj e f =
    split_lt i j (λ l. l)
    (λ l. split_lt j i
    (λ u. absurd (f u (arc-opposite n a j i hj hi ∙ ap converse e ∙ converse-empty)))
    (λ u.
    let q : j ≡ i = omega arith in
    let z : ◌≡◌ {A = ℕ} 4 0 = sym (arc-diagonal n a D i hi) ∙ subst (λ (x : ℕ). cell n (arc n a) i x ≡ empty) q e in
    absurd (omega arith)))

pub refine_ends : (n : ℕ) (m : List ℕ) → Ends n m (refine n m)
unfolding refine
refine_ends n m =
    let a : List ℕ = node n m in
    let b : List ℕ = prepared n m in
    let lower : (v : List ℕ) → Network n m v → Below n v b = λ v N. network-arc a N (network-node m N N.within) in
    by_preparation (λ (answer : Preparation). Ends n m (started answer (λ _. all_rounds n b))) n m
    (λ i e. record {
      none = λ v N.
          empty_shuts n a i i e.inside e.inside e.empties v (network-node m N N.within) (network-plain N).full;
      names = a_region (record { number = refl; inside = e.inside; second = refl; third = refl; counted = refl });
    })
    (λ i j e. record {
      none = λ v N. empty_shuts n b i j e.first e.second e.empties v (lower v N) (network-plain N).full;
      names = a_pair
          (record {
            number = refl;
            order = arc-order n a (node_done n m e.regions) i j e.first e.second
                e.empties (λ l z. e.before j i (place_above n j i i j l e.first) z);
            inside = e.second;
            third = refl;
            counted = refl;
          });
    })
    (λ e.
    let P : Plain n b = arc_done n m e.regions e.cells in
    rounds-end n m (suc (most_rounds n)) 0 b (length-arc n a) P (below_trans n (arc-below n a) (node-below n m)) lower
    (omega (arith, slack_most n b)) (omega (arith, slack_most n b)))
