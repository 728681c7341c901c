-- Numbers and their bytes, four or two: there and back, how long they are, and what putting them into an area leaves.
use mathlib.Core.Path.{◌≡◌, sym, ◌∙◌}
use mathlib.Core.List.{List, [], ◌∷◌, ◌++◌, append_assoc}
use Prim.Native.Nat.{ℕ, ◌+◌, ◌*◌, ◌/◌, ◌%◌, ◌≤◌, ◌<◌}
use native.Mathlib.Nat.{div-add-mod'}
use native.Mathlib.Numerals.{unary_clauses}
use native.Mathlib.Omega.{arith}
use borrow.Author.Tests.{le-leb, lt-leb}
use lib.ListN.{length, get_or, take, drop, length-append, get_or-eq_default}
use lib.Seq.{sets, sets-eq, drop-drop, take_at, length-take-le, length-sets, get_or-append-add}
use Rattle.lists.specs.BigEndian.{AllBytes, number_at, big_endian, bytes_put, number_put, two_bytes, two_bytes_put}

-- four bytes put together, and taken apart again
pub parted : (a b c d : ℕ) → a < 256 → b < 256 → c < 256 → d < 256
    → big_endian (a * 16777216 + b * 65536 + c * 256 + d) ≡ a ∷ b ∷ c ∷ d ∷ []
parted a b c d h i j k =
    let x : ℕ = a * 16777216 + b * 65536 + c * 256 + d in
    let e₁ : x / 16777216 % 256 ≡ a = omega arith in
    let e₂ : x / 65536 % 256 ≡ b = omega arith in
    let e₃ : x / 256 % 256 ≡ c = omega arith in
    let e₄ : x % 256 ≡ d = omega arith in
    rw (e₁, e₂, e₃, e₄)

-- a number of 32 bits is what its four bytes make
pub joined : (x : ℕ) → x < 4294967296
    → x / 16777216 % 256 * 16777216 + x / 65536 % 256 * 65536 + x / 256 % 256 * 256 + x % 256 ≡ x
joined x h =
    let d : x / 65536 ≡ x / 256 / 256 = omega arith in
    let e : x / 16777216 ≡ x / 256 / 256 / 256 = omega arith in
    let small : x / 256 / 256 / 256 % 256 ≡ x / 256 / 256 / 256 = omega arith in
    rw (e, d, small)
    (omega (arith, div-add-mod' x 256, div-add-mod' (x / 256) 256, div-add-mod' (x / 256 / 256) 256))

-- the number at the place where its bytes were put is that number
pub number_of_bytes : (before after : List ℕ) (x : ℕ) → x < 4294967296
    → number_at (before ++ big_endian x ++ after) (length before) ≡ x
number_of_bytes before after x h =
    let part : List ℕ = big_endian x ++ after in
    let same : before ++ big_endian x ++ after ≡ before ++ part = append_assoc before (big_endian x) after in
    let here : get_or (before ++ part) (length before) 0 ≡ x / 16777216 % 256 = simp unary_clauses at (get_or-append-add before part 0 0) in
    rw (same, here, get_or-append-add before part 1 0, get_or-append-add before part 2 0, get_or-append-add before part 3 0) (joined x h)

-- the bytes of a number that was read are those that were read
pub bytes_of_number : (s : List ℕ) (at : ℕ) → AllBytes s
    → big_endian (number_at s at) ≡ get_or s at 0 ∷ get_or s (at + 1) 0 ∷ get_or s (at + 2) 0 ∷ get_or s (at + 3) 0 ∷ []
bytes_of_number s at b =
    parted (get_or s at 0) (get_or s (at + 1) 0) (get_or s (at + 2) 0) (get_or s (at + 3) 0)
    (b.small at) (b.small (at + 1)) (b.small (at + 2)) (b.small (at + 3))

-- a number that was read from bytes has 32 bits
pub number_small : (s : List ℕ) (at : ℕ) → AllBytes s → number_at s at < 4294967296
number_small s at b = omega (arith, b.small at, b.small (at + 1), b.small (at + 2), b.small (at + 3))

-- the byte so many bytes behind an offset
pub record Byte (bytes : List ℕ) (at behind byte : ℕ) : Type 0 where
  pub value : byte ≡ get_or bytes (at + behind) 0
  pub small : byte < 256

-- past the end a byte counts as 0
pub byte_past : (bytes : List ℕ) (at behind : ℕ) → length bytes ≤ at + behind → Byte bytes at behind 0
byte_past bytes at behind h = record { value = sym (get_or-eq_default bytes 0 h); small = omega arith }

-- four bytes, each behind the other, make the number
pub number_of_four : (s : List ℕ) (at a b c d : ℕ) → Byte s at 0 a → Byte s at 1 b → Byte s at 2 c → Byte s at 3 d
    → a * 16777216 + b * 65536 + c * 256 + d ≡ number_at s at
number_of_four s at a b c d f g h i =
    let here : a ≡ get_or s at 0 = simp unary_clauses at f.value in rw (here, g.value, h.value, i.value)

-- bytes are put where they fit
pub bytes_fit : (area bytes : List ℕ) (at : ℕ) → at + length bytes ≤ length area → bytes_put area at bytes ≡ sets area at bytes
bytes_fit area bytes at h = rw (le-leb (at + length bytes) (length area) h)

-- between what stands before them and what stands behind
pub bytes_between : (area bytes : List ℕ) (at count : ℕ) → at + length bytes ≤ length area → count ≡ length bytes
    → bytes_put area at bytes ≡ take at area ++ (bytes ++ drop count (drop at area))
bytes_between area bytes at count h e = rw (bytes_fit area bytes at h, sets-eq bytes area at h, e, drop-drop, append_assoc)

-- a number is put where its four bytes fit
pub put_fits : (area : List ℕ) (at x : ℕ) → at + 4 ≤ length area → number_put area at x ≡ sets area at (big_endian x)
put_fits area at x h = rw (le-leb (at + 4) (length area) h)

-- and where they do not, nothing is written
pub put_no_room : (area : List ℕ) (at x : ℕ) → length area < at + 4 → number_put area at x ≡ area
put_no_room area at x h = rw (lt-leb (at + 4) (length area) h)

-- bytes put right behind a front make it longer
pub bytes_behind : (area area' front bytes : List ℕ) (at : ℕ) → at + length bytes ≤ length area → take at area ≡ front
    → area' ≡ bytes_put area at bytes → (take (at + length bytes) area' ≡ front ++ bytes) × (length area' ≡ length area)
bytes_behind area area' front bytes at h e q =
    let long : length (front ++ bytes) ≡ at + length bytes =
    rw (← e) (simp length-append (omega (arith, length-take-le at area (omega arith)))) in
    let put : area' ≡ sets area at bytes = q ∙ bytes_fit area bytes at h in
    rw put (
      rw (sets-eq bytes area at h, e) (take_at (front ++ bytes) (drop (at + length bytes) area) (at + length bytes) long),
      length-sets area at bytes,
    )

-- so do those of a number
pub put_behind : (area area' front : List ℕ) (at x : ℕ) → at + 4 ≤ length area → take at area ≡ front → area' ≡ number_put area at x
    → (take (at + 4) area' ≡ front ++ big_endian x) × (length area' ≡ length area)
put_behind area area' front at x h e q = bytes_behind area area' front (big_endian x) at h e q

-- ---- numbers of 16 bits

-- a number of 16 bits is what its two bytes make
pub two_joined : (x : ℕ) → x < 65536 → x / 256 % 256 * 256 + x % 256 ≡ x
two_joined x h =
    let small : x / 256 % 256 ≡ x / 256 = omega arith in rw small (omega (arith, div-add-mod' x 256))

pub two_behind : (area area' front : List ℕ) (at x : ℕ) → at + 2 ≤ length area → take at area ≡ front → area' ≡ two_bytes_put area at x
    → (take (at + 2) area' ≡ front ++ two_bytes x) × (length area' ≡ length area)
two_behind area area' front at x h e q = bytes_behind area area' front (two_bytes x) at h e q
