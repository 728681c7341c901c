-- Putting a text with room for it and without, and one text behind the other.
use mathlib.Core.Path.{◌≡◌, refl, sym, ap, ◌∙◌}
use mathlib.Core.Bool.{true, false}
use mathlib.Core.List.{List, [], ◌++◌, append-nil}
use Prim.Native.Nat.{ℕ, ◌+◌, ◌-◌, ◌≤◌, ◌<◌}
use native.Mathlib.Nat.{add-zero}
use native.Mathlib.Numerals.{add-one}
use native.Mathlib.Omega.{arith}
use borrow.Author.Tests.{le-leb, lt-leb}
use lib.ListN.{length, take, set, get_or, length-append, length-set, take-append-drop}
use lib.Seq.{paste, paste-zero, paste-suc, take-length}
use borrow.Rule.Slice.PartMut.{put_mid}
use Rattle.std.proofs.lemmas.Slice.{put_mid-paste}
use Rattle.std.proofs.lemmas.List.Edits.{length-paste, paste-paste}
use Rattle.text.specs.declared.Page.{Page}
use Rattle.text.specs.Put.{room, overwritten, Puts, PutsOn, AddsOn}

-- the buffer with a text at an offset, in the library's words
overwritten_is : (buffer : List ℕ) (at : ℕ) (text : List ℕ) → overwritten buffer at text ≡ paste buffer at text (length text)
unfolding overwritten
overwritten_is buffer at text = rw (take-length text)

-- with room
pub put_fits : (text buffer : List ℕ) (at : ℕ) (buffer' : List ℕ) (next : ℕ) → at + length text ≤ length buffer
    → buffer' ≡ overwritten buffer at text → next ≡ at + length text → Puts text buffer at buffer' next
put_fits text buffer at buffer' next h e f =
    let b : room buffer at text ≡ true = le-leb (at + length text) (length buffer) h in
    record { written = rw b e; behind = rw b f }

-- without
pub put_none : (text buffer : List ℕ) (at : ℕ) → length buffer < at + length text → Puts text buffer at buffer at
put_none text buffer at h =
    let b : room buffer at text ≡ false = lt-leb (at + length text) (length buffer) h in
    record { written = rw b; behind = rw b }

-- a text that was copied into the part from a place on
pub put_copied : (text copied buffer : List ℕ) (at end : ℕ) → copied ≡ text → end ≡ at + length text → end ≤ length buffer
    → Puts text buffer at (put_mid at (end - at) buffer copied) end
put_copied text copied buffer at end e f h =
    put_fits text buffer at (put_mid at (end - at) buffer copied) end (omega arith)
    (put_mid-paste at (end - at) buffer copied text (length text) e (omega arith) refl ∙ sym (overwritten_is buffer at text)) f

-- the first `done` bytes of a text have been copied into the buffer from a place on
pub record Copied (buffer₀ : List ℕ) (at : ℕ) (text : List ℕ) (done : ℕ) (buffer : List ℕ) : Type 0 where
  pub within : done ≤ length text
  pub long : length buffer ≡ length buffer₀
  pub copied : buffer ≡ paste buffer₀ at text done

pub copy_none : (buffer : List ℕ) (at : ℕ) (text : List ℕ) → Copied buffer at text 0 buffer
copy_none buffer at text = record { within = omega arith; long = refl; copied = paste-zero buffer at text }

pub copy_more : {buffer₀ : List ℕ} {at : ℕ} {text : List ℕ} {done : ℕ} {buffer : List ℕ} → Copied buffer₀ at text done buffer
    → at + done < length buffer₀ → done < length text
    → Copied buffer₀ at text (done + 1) (set buffer (at + done) (get_or text done 0))
copy_more {buffer₀} {at} {text} {done} {buffer} c h l = record {
  within = omega arith;
  long = length-set buffer (at + done) (get_or text done 0) ∙ c.long;
  copied = rw (c.copied, add-one done) (paste-suc buffer₀ at text done 0 h l);
}

pub copy_whole : {buffer₀ : List ℕ} {at : ℕ} {text : List ℕ} {done : ℕ} {buffer : List ℕ} → Copied buffer₀ at text done buffer
    → at + length text ≤ length buffer₀ → length text ≤ done → Puts text buffer₀ at buffer (at + done)
unfolding overwritten
copy_whole {buffer₀} {at} {text} {done} {buffer} c h l =
    let e : done ≡ length text = omega (arith, c.within) in
    put_fits text buffer₀ at buffer (at + done) h (rw (c.copied, e, take-length text)) (omega arith)

-- ---- one text behind the other

pub length-overwritten : (buffer : List ℕ) (at : ℕ) (text : List ℕ) → at + length text ≤ length buffer
    → length (overwritten buffer at text) ≡ length buffer
length-overwritten buffer at text h = ap length (overwritten_is buffer at text) ∙ length-paste buffer at text (length text) h (omega arith)

pub overwritten_twice : (buffer : List ℕ) (at : ℕ) (text more : List ℕ) → at + length text + length more ≤ length buffer
    → overwritten (overwritten buffer at text) (at + length text) more ≡ overwritten buffer at (text ++ more)
overwritten_twice buffer at text more h =
    overwritten_is (overwritten buffer at text) (at + length text) more
    ∙ ap (λ (b : List ℕ). paste b (at + length text) more (length more)) (overwritten_is buffer at text)
    ∙ paste-paste buffer at text more (length text) (length more) refl refl (omega arith)
    ∙ ap (paste buffer at (text ++ more)) (sym (length-append text more))
    ∙ sym (overwritten_is buffer at (text ++ more))

-- nothing is put
pub adds_none : (page : Page) → AddsOn [] page page
unfolding overwritten
adds_none page = record {
  same_reference = refl;
  adds = record {
    written = λ h. sym (rw (add-zero page.at, append-nil (take page.at page.buffer.now)) (take-append-drop page.at page.buffer.now));
    behind = λ h. sym (add-zero page.at);
  };
}

-- one text is put
pub puts_adds : {text : List ℕ} {page page' : Page} → PutsOn text page page' → AddsOn text page page'
puts_adds {text} {page} {page'} p = record {
  same_reference = p.same_reference;
  adds = record {
    written = λ h. p.puts.written ∙ rw (le-leb (page.at + length text) (length page.buffer.now) h);
    behind = λ h. p.puts.behind ∙ rw (le-leb (page.at + length text) (length page.buffer.now) h);
  };
}

-- and one behind it
pub adds-adds : {text more : List ℕ} {page page' page'' : Page} → AddsOn text page page' → AddsOn more page' page''
    → AddsOn (text ++ more) page page''
adds-adds {text} {more} {page} {page'} {page''} a b =
    let whole : length (text ++ more) ≡ length text + length more = length-append text more in
    let at : ℕ = page.at in
    let buffer : List ℕ = page.buffer.now in
    let long : at + length text ≤ length buffer → length page'.buffer.now ≡ length buffer =
    λ r. ap length (a.adds.written r) ∙ length-overwritten buffer at text r in
    record {
      same_reference = b.same_reference ∙ a.same_reference;
      adds = record {
        written = λ h.
            let r : at + length text ≤ length buffer = omega arith in
            b.adds.written (omega (arith, a.adds.behind r, long r))
            ∙ rw (a.adds.written r, a.adds.behind r) (overwritten_twice buffer at text more (omega arith));
        behind = λ h.
            let r : at + length text ≤ length buffer = omega arith in
            omega (arith, a.adds.behind r, long r, b.adds.behind (omega (arith, a.adds.behind r, long r)));
      };
    }
