-- Numbers of whatever bytes each, put one behind the other into an area of any length: Crossed says it of one that they fill.
use mathlib.Core.Path.{◌≡◌, refl, sym, ap, ◌∙◌}
use mathlib.Core.List.{List, [], ◌∷◌, ◌++◌, append_assoc}
use Prim.Native.Nat.{ℕ, ◌+◌, ◌*◌, ◌≤◌, ◌<◌}
use native.Mathlib.Numerals.{add-one, unary_clauses}
use native.Mathlib.Omega.{arith}
use lib.ListN.{length, get_or, take}
use lib.Seq.{take_all, take-suc}
use Rattle.lists.specs.BigEndian.{big_endian, number_put, numbers_bytes, two_bytes, two_bytes_put, two_bytes_each}
use Rattle.lists.proofs.BigEndianLaws.{put_behind, two_behind}
use Rattle.chachaqom.proofs.Crossed.{numbers_both, numbers_one}

pub marks_more : (l : List ℕ) (x : ℕ) → two_bytes_each (l ++ (x ∷ [])) ≡ two_bytes_each l ++ two_bytes x
unfolding two_bytes_each
marks_more [] x = refl
marks_more (y ∷ l) x =
    ap (λ (r : List ℕ). two_bytes y ++ r) (marks_more l x) ∙ sym (append_assoc (two_bytes y) (two_bytes_each l) (two_bytes x))

-- numbers as bytes: those of none, and of one more
pub record Laying (bytes_of : List ℕ → List ℕ) (bytesOfOne : ℕ → List ℕ) : Type 0 where
  pub none : bytes_of [] ≡ []
  pub more : (l : List ℕ) (x : ℕ) → bytes_of (l ++ (x ∷ [])) ≡ bytes_of l ++ bytesOfOne x

pub identifiers_lay : Laying numbers_bytes big_endian
unfolding numbers_bytes
identifiers_lay = record {
  none = refl;
  more = λ l x. numbers_both l (x ∷ []) ∙ ap (λ (r : List ℕ). numbers_bytes l ++ r) (numbers_one x);
}

pub marks_lay : Laying two_bytes_each two_bytes
unfolding two_bytes_each
marks_lay = record { none = refl; more = marks_more }

-- the first `place` of `count` numbers stand in front of an area of `size` bytes, `width` bytes each
pub record Crossed (bytes_of : List ℕ → List ℕ) (width count size : ℕ) (numbers : List ℕ) (place : ℕ) (bytes : List ℕ) : Type 0 where
  pub within : place ≤ count
  pub long : length bytes ≡ size
  pub front : take (width * place) bytes ≡ bytes_of (take place numbers)

module _ {bytes_of : List ℕ → List ℕ} {bytesOfOne : ℕ → List ℕ} {width count size : ℕ} (law : Laying bytes_of bytesOfOne) where
  pub crossed_none : (numbers bytes : List ℕ) → length bytes ≡ size → Crossed bytes_of width count size numbers 0 bytes
  crossed_none numbers bytes h = record { within = omega arith; long = h; front = simp unary_clauses (sym law.none) }

  pub crossed_more : {numbers : List ℕ} {place : ℕ} {bytes : List ℕ} (bytes' : List ℕ) → Crossed bytes_of width count size numbers place bytes
      → place < count → length numbers ≡ count → width * (place + 1) ≡ width * place + width
      → (take (width * place + width) bytes' ≡ bytes_of (take place numbers) ++ bytesOfOne (get_or numbers place 0)) × (length bytes' ≡ length bytes)
      → Crossed bytes_of width count size numbers (place + 1) bytes'
  crossed_more {numbers} {place} bytes' c h l next put =
      let one : take (place + 1) numbers ≡ take place numbers ++ (get_or numbers place 0 ∷ []) =
      rw (add-one place) (take-suc numbers place 0 (omega arith)) in
      record {
        within = omega arith;
        long = put.1 ∙ c.long;
        front = ap (λ (k : ℕ). take k bytes') next ∙ put.0 ∙ sym (ap bytes_of one ∙ law.more (take place numbers) (get_or numbers place 0));
      }

  pub crossed_all : {numbers : List ℕ} {place : ℕ} {bytes : List ℕ} → Crossed bytes_of width count size numbers place bytes → count ≤ place
      → length numbers ≡ count → size ≤ width * count → bytes ≡ bytes_of numbers
  crossed_all {numbers} {place} {bytes} c h l whole =
      let same : place ≡ count = omega (arith, c.within) in
      sym (take_all (width * place) bytes (rw (same, c.long) whole)) ∙ c.front ∙ ap bytes_of (take_all place numbers (omega arith))

-- one more identifier, and one more mark
pub identifier_crosses : {identifiers : List ℕ} {place : ℕ} {bytes : List ℕ} (bytes' : List ℕ)
    → Crossed numbers_bytes 4 64 256 identifiers place bytes → place < 64 → length identifiers ≡ 64
    → bytes' ≡ number_put bytes (4 * place) (get_or identifiers place 0) → Crossed numbers_bytes 4 64 256 identifiers (place + 1) bytes'
identifier_crosses {identifiers} {place} {bytes} bytes' c h l e =
    crossed_more identifiers_lay bytes' c h l (omega arith)
    (put_behind bytes bytes' (numbers_bytes (take place identifiers)) (4 * place) (get_or identifiers place 0) (omega (arith, c.long)) c.front e)

pub mark_crosses : {marks : List ℕ} {place : ℕ} {bytes : List ℕ} (bytes' : List ℕ)
    → Crossed two_bytes_each 2 4096 8192 marks place bytes → place < 4096 → length marks ≡ 4096
    → bytes' ≡ two_bytes_put bytes (2 * place) (get_or marks place 0) → Crossed two_bytes_each 2 4096 8192 marks (place + 1) bytes'
mark_crosses {marks} {place} {bytes} bytes' c h l e =
    crossed_more marks_lay bytes' c h l (omega arith)
    (two_behind bytes bytes' (two_bytes_each (take place marks)) (2 * place) (get_or marks place 0) (omega (arith, c.long)) c.front e)
