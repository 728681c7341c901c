-- `emptied::ran_out_by` meets its contract. The loop's invariant: the set is (i, j) intersected with the compositions through the places
-- below k, and it was not empty at any of them.
use Prim.Native.Nat.{◌<◌}
use Rattle.std.proofs.Common.{rules}
use native.Mathlib.Omega.{arith}
use Rattle.network.proofs.Searches.{found_at, found_past}
use Rattle.network.proofs.Running.{running_starts, running_on, running_out, running_ends}
use Rattle.network.proofs.emptied.ran_out_by.Goals as goal

pub loop-k-init : goal.loop-k-init
loop-k-init c = running_starts _ _ _ _ _ c.at-set.ensures (let byte : c.at-set.result.0 < 256 = search rules in omega (arith, byte, c.at-set.ensures))

pub returns-then-is_empty : goal.returns-then-is_empty
returns-then-is_empty c =
    let out = running_out c.loop-k.invariant (omega arith) _ _ c.along.ensures
    c.intersect-set.ensures _ c.is_empty.ensures c.if-is_empty.true in
    found_at _ _ _ out (omega arith)

pub loop-k-preserved : goal.loop-k-preserved
loop-k-preserved c =
    running_on c.loop-k.invariant (omega arith) _ _ c.along.ensures
    c.intersect-set.ensures _ c.is_empty.ensures c.if-is_empty.false

pub returns : goal.returns
returns c = let ends = running_ends c.loop-k.invariant c.loop-k-test.false in found_past _ _ (omega (arith, ends))
