-- A list by its entries, a number by its bits, and a test that passes somewhere.
use Rattle.std.specs.Prelude.{ℕ, zero, suc, Bool, false, cond, ◌||◌, List}
use Rattle.lists.specs.Tabled.{tabled}
use Rattle.relation.specs.Sets.{only, empty, union_of}

-- f 0, f 1, .., f (n - 1)
abbrev pub list_of : ℕ → (ℕ → ℕ) → List ℕ
list_of n f = tabled n 0 f

-- the number that has bit i exactly where i is below n and passes the test
unfoldable pub mask_of : ℕ → (ℕ → Bool) → ℕ
mask_of n test = union_of n (λ i. cond (test i) (only i) empty)

-- the test passes at one of 0, .., n - 1
unfoldable pub some : ℕ → (ℕ → Bool) → Bool
some zero test = false
some (suc n) test = some n test || test n
