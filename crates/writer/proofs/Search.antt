-- A search by place that ends at the first that passes, or finds none.
use mathlib.Core.Path.{◌≡◌, refl}
use mathlib.Core.Bool.{Bool, true, false}
use Prim.Native.Nat.{ℕ, ◌<◌}
use native.Mathlib.Omega.{arith}
use borrow.Author.Tests.{lt-ltb, le-ltb}
use Rattle.std.specs.Prelude.{Option, Some, None, MatchOption}
use Rattle.lists.specs.Least.{least, found_below}
use Rattle.lists.proofs.LeastLaws.{least-here, least_gone}

pub found_first : (n : ℕ) (test : ℕ → Bool) (r : Option ℕ)
    → MatchOption r ((k : ℕ) → k < n → test k ≡ false) (λ p. (p < n) × (test p ≡ true) × ((k : ℕ) → k < p → test k ≡ false))
    → r ≡ found_below n (least n test)
found_first n test None h =
    let e : n ≡ least n test = least_gone n test n refl h in
    rw (← e, le-ltb n n (omega arith)) refl
found_first n test (Some p) h =
    let e : p ≡ least n test = least-here n test p h.0 h.2 h.1 in
    rw (← e, lt-ltb p n h.0) refl
