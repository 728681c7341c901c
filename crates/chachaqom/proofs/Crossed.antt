-- Identifiers and marks as they cross to C, one behind the other, and numbers that bytes hold.
use mathlib.Core.Path.{◌≡◌, refl, sym, ap, ap₂, ◌∙◌}
use mathlib.Core.List.{List, [], ◌∷◌, ◌++◌, append_assoc, append-nil}
use Prim.Native.Nat.{ℕ, zero, suc, ◌+◌, ◌*◌, ◌≤◌, ◌<◌}
use native.Mathlib.Nat.{add-zero, mul-le-mul}
use native.Mathlib.Numerals.{add-one, unary_clauses}
use native.Mathlib.Omega.{arith}
use lib.ListN.{length, get_or, take, set, length-append}
use lib.Seq.{take_all, take-suc, take-suc-set}
use Rattle.std.specs.List.{flat_map}
use Rattle.std.proofs.lemmas.List.{take-append-le}
use Rattle.lists.proofs.Splits.{split_lt}
use Rattle.std.proofs.lemmas.Grind.{flat_map-append}
use Rattle.lanes.specs.Lists.{list_of}
use Rattle.lanes.proofs.Lists.{list_at, list_split}
use Rattle.lists.specs.Tabled.{tabled}
use Rattle.lists.specs.BigEndian.{big_endian, number_at, bytes_put, numbers_bytes, numbers_in, two_bytes, two_bytes_each}
use Rattle.lists.proofs.BigEndianLaws.{bytes_behind}

pub numbers_both : (l m : List ℕ) → numbers_bytes (l ++ m) ≡ numbers_bytes l ++ numbers_bytes m
unfolding numbers_bytes
numbers_both [] m = refl
numbers_both (x ∷ l) m = ap (λ (r : List ℕ). big_endian x ++ r) (numbers_both l m) ∙ sym (append_assoc (big_endian x) (numbers_bytes l) (numbers_bytes m))

pub numbers_one : (x : ℕ) → numbers_bytes (x ∷ []) ≡ big_endian x
unfolding numbers_bytes
numbers_one x = refl

-- ---- an area that numbers are put into, one behind the other

-- the first `place` of the numbers stand in front of the bytes
pub record Crossed {A : Type 0} (bytes_of : A → List ℕ) (width : ℕ) (numbers : List A) (place : ℕ) (bytes : List ℕ) : Type 0 where
  pub long : length bytes ≡ width * length numbers
  pub front : take (width * place) bytes ≡ flat_map bytes_of (take place numbers)

module _ {A : Type 0} (bytes_of : A → List ℕ) (width : ℕ) (numbers : List A) where
  pub crossed_none : (bytes : List ℕ) → length bytes ≡ width * length numbers → Crossed bytes_of width numbers 0 bytes
  crossed_none bytes h = record { long = h; front = simp unary_clauses refl }

  -- there is room for one more
  pub crossed_room : (bytes : List ℕ) (place : ℕ) → place < length numbers → Crossed bytes_of width numbers place bytes
      → width * place + width ≤ length bytes
  crossed_room bytes place h c =
      let same : width ≤ width = omega arith in
      let inside : place + 1 ≤ length numbers = omega arith in
      let next : width * (place + 1) ≡ width * place + width = omega arith in
      let most : width * (place + 1) ≤ width * length numbers = mul-le-mul same inside in
      omega (arith, c.long)

  pub crossed_more : (wide : (x : A) → length (bytes_of x) ≡ width) (bytes bytes' : List ℕ) (place : ℕ) (x : A) → place < length numbers
      → x ≡ get_or numbers place x → Crossed bytes_of width numbers place bytes → bytes' ≡ bytes_put bytes (width * place) (bytes_of x)
      → Crossed bytes_of width numbers (place + 1) bytes'
  crossed_more wide bytes bytes' place x h is c put =
      let next : width * (place + 1) ≡ width * place + width = omega arith in
      let one : take (place + 1) numbers ≡ take place numbers ++ (x ∷ []) =
      rw (add-one place) (take-suc numbers place x h ∙ ap (λ y. take place numbers ++ (y ∷ [])) (sym is)) in
      let behind = bytes_behind bytes bytes' (flat_map bytes_of (take place numbers)) (bytes_of x) (width * place)
      (omega (arith, wide x, crossed_room bytes place h c)) c.front put in
      record {
        long = behind.1 ∙ c.long;
        front = ap (λ k. take k bytes') (next ∙ ap (λ k. width * place + k) (sym (wide x))) ∙ behind.0
            ∙ sym (ap (flat_map bytes_of) one ∙ flat_map-append bytes_of (take place numbers) (x ∷ [])
            ∙ ap (λ l. flat_map bytes_of (take place numbers) ++ l) (append-nil (bytes_of x)));
      }

  pub crossed_all : (bytes : List ℕ) (place : ℕ) → length numbers ≤ place → place ≤ length numbers → Crossed bytes_of width numbers place bytes
      → bytes ≡ flat_map bytes_of numbers
  crossed_all bytes place h k c =
      let same : place ≡ length numbers = omega arith in
      sym (take_all (width * place) bytes (rw same (omega (arith, c.long)))) ∙ c.front ∙ ap (flat_map bytes_of) (take_all place numbers h)

pub identifiers_flat : (identifiers : List ℕ) → flat_map big_endian identifiers ≡ numbers_bytes identifiers
unfolding numbers_bytes
identifiers_flat [] = refl
identifiers_flat (x ∷ rest) = ap (λ (l : List ℕ). big_endian x ++ l) (identifiers_flat rest)

pub marks_flat : (marks : List ℕ) → flat_map two_bytes marks ≡ two_bytes_each marks
unfolding two_bytes_each
marks_flat [] = refl
marks_flat (x ∷ rest) = ap (λ (l : List ℕ). two_bytes x ++ l) (marks_flat rest)

-- ---- numbers that bytes hold

-- one more
pub one_held : (bytes identifiers : List ℕ) (place number : ℕ) → place < length identifiers → take place identifiers ≡ numbers_in place bytes
    → number ≡ number_at bytes (4 * place) → take (place + 1) (set identifiers place number) ≡ numbers_in (place + 1) bytes
unfolding numbers_in
one_held bytes identifiers place number h e f = rw (add-one place, take-suc-set identifiers place number h, e, f)

pub length_numbers : (n : ℕ) (bytes : List ℕ) → length (numbers_in n bytes) ≡ n
unfolding numbers_in
length_numbers zero bytes = refl
length_numbers (suc n) bytes = omega (arith, length-append (numbers_in n bytes) (number_at bytes (4 * n) ∷ []), length_numbers n bytes)

-- the first of more of them
pub numbers_front : (n count : ℕ) (bytes : List ℕ) → n ≤ count → take n (numbers_in count bytes) ≡ numbers_in n bytes
unfolding numbers_in
numbers_front n zero bytes h = let none : n ≡ 0 = omega arith in rw none
numbers_front n (suc count) bytes h =
    let last : List ℕ = number_at bytes (4 * count) ∷ [] in
    split_lt count n
    (λ l.
    let all : n ≡ suc count = omega arith in
    ap (λ (k : ℕ). take k (numbers_in count bytes ++ last)) all ∙ take_all (suc count) (numbers_in count bytes ++ last) (omega (arith, length_numbers (suc count) bytes))
    ∙ ap (λ (k : ℕ). numbers_in k bytes) (sym all))
    (λ l. take-append-le n (numbers_in count bytes) last (omega (arith, length_numbers count bytes)) ∙ numbers_front n count bytes l)

-- the first n are listed by their places
pub numbers_listed : (n : ℕ) (bytes : List ℕ) → numbers_in n bytes ≡ list_of n (λ k. number_at bytes (4 * k))
unfolding numbers_in tabled
numbers_listed zero bytes = refl
numbers_listed (suc n) bytes =
    let f : ℕ → ℕ = λ k. number_at bytes (4 * k) in
    let more : list_of (suc n) f ≡ list_of n f ++ list_of 1 (λ k. f (n + k)) = rw add-one at (list_split n 1 f) in
    ap₂ (λ (l : List ℕ) (x : ℕ). l ++ (x ∷ [])) (numbers_listed n bytes) (ap f (sym (add-zero n))) ∙ sym more

-- the number at a place of theirs
pub number_in : (n : ℕ) (bytes : List ℕ) (k : ℕ) → k < n → get_or (numbers_in n bytes) k 0 ≡ number_at bytes (4 * k)
number_in n bytes k h = ap (λ (l : List ℕ). get_or l k 0) (numbers_listed n bytes) ∙ list_at n (λ p. number_at bytes (4 * p)) k h
