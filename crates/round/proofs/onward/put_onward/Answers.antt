-- `round::onward::put_onward` meets its contract. The loop's invariant: the words of the relations below p are laid.
use Prim.Native.Nat.{ℕ, ◌+◌}
use mathlib.Core.Path.{◌≡◌, ◌∙◌, sym, ap, subst}
use mathlib.Core.List.{List}
use native.Mathlib.Omega.{arith}
use Rattle.lanes.specs.Words.{wired}
use Rattle.round.specs.Inner.{Wired}
use Rattle.round.proofs.Wires.{wired-start, wired_more, wired_all_lem}
use Rattle.round.proofs.onward.put_onward.Goals as goal

-- what a relation gives is what an equal one gives
wired_equal : (b given : List ℕ) (q p : ℕ) → given ≡ wired q b → q ≡ p → given ≡ wired p b
wired_equal b given q p e same = e ∙ ap (λ k. wired k b) same

pub loop-p-init : goal.loop-p-init
loop-p-init c = wired-start _ _ c.requires

pub loop-p-preserved : goal.loop-p-preserved
loop-p-preserved c =
    subst (λ (l : List ℕ). Wired c.args.b l (c.loop-p.p + 1)) (sym c.put_block.ensures)
    (wired_more c.args.b c.loop-p.onward c.composed.result c.loop-p.p (omega arith) c.loop-p.invariant
    (wired_equal c.args.b c.composed.result _ c.loop-p.p c.composed.ensures (omega arith)))

pub returns : goal.returns
returns c =
    let all : c.loop-p.p ≡ 8 = omega arith in
    wired_all_lem _ _ (subst (λ (n : ℕ). Wired c.args.b c.loop-p.onward n) all c.loop-p.invariant)
