-- What the exported writer comes to before the writer is asked.
use mathlib.Core.Path.{◌≡◌, refl}
use mathlib.Core.Bool.{true, false}
use mathlib.Core.List.{List, []}
use Prim.Native.Nat.{ℕ, ◌*◌, ◌≤◌}
use native.Mathlib.Omega.{arith}
use borrow.Author.Tests.{eq-eqb, ne_eqb}
use lib.ListN.{length}
use Rattle.lists.specs.BigEndian.{numbers_in}
use Rattle.matrix.specs.Square.{in_range}
use Rattle.matrix.proofs.CellLaws.{range_holds}
use Rattle.std.proofs.Common.{Err}
use Rattle.writer.specs.declared.Unwritten.TheVariants.{OutOfRange, WrongLength}
use Rattle.writer.specs.Writes.{Writes}
use Rattle.writer.proofs.WriteLaws.{out_of_range, other-regions, is_refused}
use Rattle.chachaqom.specs.WriteExport.{identifiers_lent}

pub numbers_lent : (n : ℕ) (bytes : List ℕ) → length bytes ≡ 4 * n → identifiers_lent n bytes ≡ numbers_in n bytes
numbers_lent n bytes e = rw (eq-eqb (length bytes) (4 * n) e)

module _ (n : ℕ) (bytes cells buffer : List ℕ) where
  pub range_refused : in_range n ≡ false → Writes n (identifiers_lent n bytes) cells buffer buffer (Err OutOfRange)
  range_refused e =
      is_refused n (identifiers_lent n bytes) cells buffer (Err OutOfRange) _ (out_of_range n (identifiers_lent n bytes) cells (length buffer) e) refl

  -- an area of another length lends no identifier, which is too few for every n in range
  pub none_lent : in_range n ≡ true → (length bytes ≡ 4 * n → ⊥) → Writes n (identifiers_lent n bytes) cells buffer buffer (Err WrongLength)
  none_lent e h =
      let some : 1 ≤ n = (range_holds n e).0 in
      rw (ne_eqb (length bytes) (4 * n) h)
      (is_refused n [] cells buffer (Err WrongLength) _ (other-regions n [] cells (length buffer) e (λ q. omega arith)) refl)
