-- The numbers of refused records: from 1 to 11, but not 2, a wrong length, nor 3, the limit.
use mathlib.Core.Path.{◌≡◌}
use mathlib.Core.Bool.{false}
use Prim.Native.Nat.{ℕ, ◌≤◌, ◌<◌}
use native.Mathlib.Omega.{arith}
use lib.Dec.{eqb}
use borrow.Author.Tests.{ne_eqb}
use Rattle.scene.specs.Numbers.{number_of}
use Rattle.scene.specs.declared.Refusal.{Refusal}
use Rattle.scene.specs.declared.Refusal.TheVariants.{NoRegion, CutShort, UnknownKind, IdentifierZero, DeclaredTwice}
use Rattle.scene.specs.declared.Refusal.TheVariants.{TooManyRegions, NotDeclared, EmptySet, BytesLeft}

pub record Numbered (number : ℕ) : Type 0 where
  pub positive : 0 < number
  pub no_length : number ≡ 2 → ⊥
  pub no_limit : number ≡ 3 → ⊥
  pub most : number ≤ 11

-- 1
numbered_no_region : Numbered 1
numbered_no_region = record { positive = omega arith; no_length = λ e. omega arith; no_limit = λ e. omega arith; most = omega arith }

-- 4 to 11
numbered_from : {number : ℕ} → 4 ≤ number → number ≤ 11 → Numbered number
numbered_from l m = record { positive = omega arith; no_length = λ e. omega arith; no_limit = λ e. omega arith; most = m }

pub numbered : (refusal : Refusal) → Numbered (number_of refusal)
numbered NoRegion = numbered_no_region
numbered CutShort = numbered_from (omega arith) (omega arith)
numbered UnknownKind = numbered_from (omega arith) (omega arith)
numbered IdentifierZero = numbered_from (omega arith) (omega arith)
numbered DeclaredTwice = numbered_from (omega arith) (omega arith)
numbered TooManyRegions = numbered_from (omega arith) (omega arith)
numbered NotDeclared = numbered_from (omega arith) (omega arith)
numbered EmptySet = numbered_from (omega arith) (omega arith)
numbered BytesLeft = numbered_from (omega arith) (omega arith)

-- the test of a definition whether a number is 2 or 3 fails
module _ {number : ℕ} (n : Numbered number) where
  pub is_no_length : eqb number 2 ≡ false
  is_no_length = ne_eqb number 2 n.no_length

  pub is_no_limit : eqb number 3 ≡ false
  is_no_limit = ne_eqb number 3 n.no_limit
