-- The least place that passes a test.
use Rattle.std.specs.Prelude.{ℕ, zero, suc, Bool, cond, ltb, Option, Some, None}

-- from `start` on, `count` places are tried
unfoldable pub least_from : ℕ → ℕ → (ℕ → Bool) → ℕ
least_from zero start test = start
least_from (suc count) start test = let rest : ℕ = least_from count (suc start) test in cond (test start) start rest

-- the least place below n that passes the test, and n if none does
unfoldable pub least : ℕ → (ℕ → Bool) → ℕ
least n test = least_from n 0 test

-- what a search among n places answers: the place, if it is one of them
abbrev pub found_below : ℕ → ℕ → Option ℕ
found_below n p = cond (ltb p n) (Some p) None
