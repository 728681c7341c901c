-- `round::words::narrow` meets its contract. The loop's invariant: one is gathered from the relations below p.
use Prim.Native.Nat.{◌-◌, ◌*◌}
use mathlib.Core.Path.{◌∙◌}
use native.Mathlib.Omega.{arith}
use lib.ListN.{length, take, drop}
use lib.Seq.{get_or-take, get_or-drop}
use Rattle.round.proofs.Narrowing.{gathered_none, gathered_more, gathered_all}
use Rattle.round.proofs.words.narrow.Goals as goal

pub loop-p-init : goal.loop-p-init
loop-p-init c = gathered_none _ _

pub loop-p-preserved : goal.loop-p-preserved
loop-p-preserved c =
    let args = c.args in
    let loop = c.loop-p in
    let words = args.onward.now in
    let from = 8 * loop.p in
    c.united-next.ensures
    ∙ gathered_more args.a words loop.one (take (length words - from) (drop from words)) loop.p loop.invariant
    (λ r l. get_or-take (length words - from) (drop from words) r 0 (omega arith) ∙ get_or-drop from words r 0)

pub returns : goal.returns
returns c =
    let args = c.args in
    let loop = c.loop-p in
    c.met.ensures ∙ gathered_all args.all args.a args.onward.now loop.one loop.p (omega arith) loop.invariant
