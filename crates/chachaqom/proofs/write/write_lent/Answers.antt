-- `chachaqom::write::write_lent` meets its contract: 1, then 2 for the bytes of the identifiers, then the writer.
use mathlib.Core.Path.{◌≡◌, sym, ap, ◌∙◌}
use mathlib.Core.Bool.{Bool, true}
use Prim.Native.Nat.{ℕ, ◌≤◌}
use native.Mathlib.Omega.{arith}
use mathlib.Core.List.{List}
use lib.ListN.{length, take}
use Rattle.std.proofs.Common.{refl, subst}
use Rattle.std.proofs.lemmas.List.{length-take-le}
use Rattle.writer.specs.Writes.{Writes}
use Rattle.lists.specs.BigEndian.{numbers_in}
use Rattle.matrix.specs.Square.{in_range}
use Rattle.matrix.proofs.CellLaws.{range_holds}
use Rattle.chachaqom.proofs.Written.{numbers_lent, range_refused, none_lent}
use Rattle.chachaqom.proofs.write.write_lent.Goals as goal

-- past the first test n is in range
few : (n : ℕ) {tested : Bool} → tested ≡ in_range n → tested ≡ true → n ≤ 64
few n e t = (range_holds n (sym e ∙ t)).1

pub returns-then-not-in_range : goal.returns-then-not-in_range
returns-then-not-in_range c =
    range_refused c.args.n c.args.identifiers.now _ _ (sym c.in_range.ensures ∙ c.if-not-in_range.true)

pub overflow_mul-n : goal.overflow_mul-n
overflow_mul-n c = omega (arith, few c.args.n c.in_range.ensures c.if-not-in_range.false)

pub returns-then-identifiers-n : goal.returns-then-identifiers-n
returns-then-identifiers-n c =
    none_lent c.args.n c.args.identifiers.now _ _ (sym c.in_range.ensures ∙ c.if-not-in_range.false) c.if-identifiers-n.true

pub slice_bounds-numbers-end : goal.slice_bounds-numbers-end
slice_bounds-numbers-end c = few c.args.n c.in_range.ensures c.if-not-in_range.false

-- the room for n of 64 numbers is for n
room : (n : ℕ) (numbers : List ℕ) → length numbers ≡ 64 → n ≤ 64 → length (take n numbers) ≡ n
room n numbers long h = length-take-le n numbers (omega (arith, long))

pub slice_bounds-write_named-end : goal.slice_bounds-write_named-end
slice_bounds-write_named-end c = sym (room c.args.n _ refl (few c.args.n c.in_range.ensures c.if-not-in_range.false))

pub write_named-requires : goal.write_named-requires
write_named-requires c =
    let h = few c.args.n c.in_range.ensures c.if-not-in_range.false in
    subst (λ k. k ≤ 64) (sym (room c.args.n _ refl h)) h

pub returns : goal.returns
returns c =
    let h = few c.args.n c.in_range.ensures c.if-not-in_range.false in
    subst (λ numbers. Writes c.args.n numbers c.args.cells.now c.args.buffer.now c.write_named.new.buffer c.write_named.result)
    (ap (λ k. numbers_in k c.args.identifiers.now) (room c.args.n _ refl h) ∙ sym (numbers_lent c.args.n c.args.identifiers.now c.if-identifiers-n.false))
    c.write_named.ensures
