-- Putting texts into a buffer from an offset on, in several parts: what PutLaws says of a page, of any list and offset.
use mathlib.Core.Path.{◌≡◌, sym, ap, ◌∙◌}
use mathlib.Core.List.{List, [], ◌++◌, append-nil}
use Prim.Native.Nat.{ℕ, ◌+◌, ◌≤◌}
use native.Mathlib.Nat.{add-zero}
use native.Mathlib.Omega.{arith}
use borrow.Author.Tests.{le-leb}
use lib.ListN.{length, take, length-append, take-append-drop}
use Rattle.text.specs.Put.{overwritten, Puts, Adds}
use Rattle.text.proofs.PutLaws.{length-overwritten, overwritten_twice}

-- nothing is put
pub adds_none : (buffer : List ℕ) (at : ℕ) → Adds [] buffer at buffer at
unfolding overwritten
adds_none buffer at = record {
  written = λ h. sym (rw (add-zero at, append-nil (take at buffer)) (take-append-drop at buffer));
  behind = λ h. sym (add-zero at);
}

-- one text is put
pub puts_adds : {text buffer : List ℕ} {at : ℕ} {buffer' : List ℕ} {next : ℕ} → Puts text buffer at buffer' next
    → Adds text buffer at buffer' next
puts_adds {text} {buffer} {at} {buffer'} {next} p = record {
  written = λ h. p.written ∙ rw (le-leb (at + length text) (length buffer) h);
  behind = λ h. p.behind ∙ rw (le-leb (at + length text) (length buffer) h);
}

-- and one behind it
pub adds-adds : {text more buffer buffer' buffer'' : List ℕ} {at next last : ℕ} → Adds text buffer at buffer' next
    → Adds more buffer' next buffer'' last → Adds (text ++ more) buffer at buffer'' last
adds-adds {text} {more} {buffer} {buffer'} {buffer''} {at} {next} {last} a b =
    let whole : length (text ++ more) ≡ length text + length more = length-append text more in
    record {
      written = λ h.
          let r : at + length text ≤ length buffer = omega arith in
          let l : length buffer' ≡ length buffer = ap length (a.written r) ∙ length-overwritten buffer at text r in
          b.written (omega (arith, a.behind r)) ∙ rw (a.written r, a.behind r) (overwritten_twice buffer at text more (omega arith));
      behind = λ h.
          let r : at + length text ≤ length buffer = omega arith in
          let l : length buffer' ≡ length buffer = ap length (a.written r) ∙ length-overwritten buffer at text r in
          omega (arith, a.behind r, b.behind (omega (arith, a.behind r)));
    }
