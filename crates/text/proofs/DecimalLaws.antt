-- The digits of a number: from the last one on, how many there are, that they say the number, that the library prints them, and a loop that
-- finds them.
use mathlib.Core.Path.{◌≡◌, refl, sym, ap, ◌∙◌, subst}
use mathlib.Core.List.{List, [], ◌∷◌, ◌++◌, append_assoc, append-nil}
use Prim.Native.Nat.{ℕ, zero, suc, ◌+◌, ◌-◌, ◌*◌, ◌/◌, ◌%◌, ◌^◌, ◌≤◌, ◌<◌}
use native.Mathlib.Nat.{pow-suc, div-lt_iff_lt-mul, mod-eq_of_lt, div-add-mod'}
use native.Mathlib.Omega.{arith}
use borrow.Author.Tests.{lt-ltb, le-ltb}
use lib.ListN.{length, take, drop, set, replicate, length-append, length-set, length-drop}
use lib.Seq.{set_split, drop_at, take_all, length-take-le}
use Rattle.std.specs.Fmt.{decimal as printed}
use Rattle.std.proofs.lemmas.Fmt.{decimal_by_steps}
use Rattle.lists.proofs.Splits.{split_lt}
use Rattle.text.specs.Decimal.{digit, decimal_up_to, decimal}

-- ---- one digit, and one digit more

pub decimal_one : (more x : ℕ) → x < 10 → decimal_up_to more x ≡ digit x ∷ []
unfolding decimal_up_to
decimal_one zero x h = rw (mod-eq_of_lt {n = x} {m = 10} h)
decimal_one (suc more) x h = rw (lt-ltb x 10 h)

pub decimal_more : (more x : ℕ) → 10 ≤ x → decimal_up_to (suc more) x ≡ decimal_up_to more (x / 10) ++ (digit (x % 10) ∷ [])
unfolding decimal_up_to
decimal_more more x h = rw (le-ltb x 10 h)

-- without its last digit a number has a digit less
tenth : (k x : ℕ) → x < 10 ^ suc k → x / 10 < 10 ^ k
tenth k x h = (div-lt_iff_lt-mul {k = 10} {x = x} {y = 10 ^ k} (omega arith)).1 (subst (λ (n : ℕ). x < n) (pow-suc 10 k) h)

-- ---- how many

-- a number below 10 ^ (k + 1) has at most k + 1 digits
pub decimal-length : (more k x : ℕ) → x < 10 ^ suc k → length (decimal_up_to more x) ≤ suc k
unfolding decimal_up_to
decimal-length zero k x h = omega arith
decimal-length (suc more) zero x h = rw (decimal_one (suc more) x h) (omega arith)
decimal-length (suc more) (suc k) x h =
    split_lt x 10 (λ l. rw (decimal_one (suc more) x l) (omega arith))
    (λ l. rw (decimal_more more x l)
    (omega (arith, length-append (decimal_up_to more (x / 10)) (digit (x % 10) ∷ []), decimal-length more k (x / 10) (tenth (suc k) x h))))

-- and no number has more than 20
pub decimal-most : (more x : ℕ) → length (decimal_up_to more x) ≤ suc more
unfolding decimal_up_to
decimal-most zero x = omega arith
decimal-most (suc more) x =
    split_lt x 10 (λ l. rw (decimal_one (suc more) x l) (omega arith))
    (λ l. rw (decimal_more more x l)
    (omega (arith, length-append (decimal_up_to more (x / 10)) (digit (x % 10) ∷ []), decimal-most more (x / 10))))

-- ---- that they say the number

-- the number that digits say, behind digits that said `before`
unfoldable pub said : ℕ → List ℕ → ℕ
said before [] = before
said before (d ∷ ds) = said (before * 10 + (d - 48)) ds

said_last : (before : ℕ) (ds : List ℕ) (d : ℕ) → said before (ds ++ (digit d ∷ [])) ≡ said before ds * 10 + d
unfolding said
said_last before [] d = omega arith
said_last before (e ∷ ds) d = said_last (before * 10 + (e - 48)) ds d

pub decimal_says : (more x : ℕ) → x < 10 ^ suc more → said 0 (decimal_up_to more x) ≡ x
unfolding said
decimal_says zero x h = rw (decimal_one zero x h) (omega arith)
decimal_says (suc more) x h =
    split_lt x 10 (λ l. rw (decimal_one (suc more) x l) (omega arith))
    (λ l. rw (decimal_more more x l, said_last 0 (decimal_up_to more (x / 10)) (x % 10), decimal_says more (x / 10) (tenth (suc more) x h))
    (div-add-mod' x 10))

-- ---- what they are

-- for as many digits as a number may have, its digits are what the library prints of it
AsPrinted : ℕ → List ℕ → Type 0
AsPrinted x digits = (more : ℕ) → x < 10 ^ suc more → digits ≡ decimal_up_to more x

one_printed : (x : ℕ) → x < 10 → AsPrinted x ((48 + x) ∷ [])
unfolding AsPrinted
one_printed x h more _ = sym (decimal_one more x h)

more_printed : (x : ℕ) (digits : List ℕ) → 10 ≤ x → AsPrinted (x / 10) digits → AsPrinted x (digits ++ ((48 + x % 10) ∷ []))
unfolding AsPrinted
more_printed x digits h before zero few = absurd (omega arith)
more_printed x digits h before (suc more) few =
    ap (λ (front : List ℕ). front ++ (digit (x % 10) ∷ [])) (before more (tenth (suc more) x few)) ∙ sym (decimal_more more x h)

-- a number of 64 bits in decimal is what the library prints of it
pub decimal_printed : (x : ℕ) → x < 2 ^ 64 → printed x ≡ decimal x
unfolding AsPrinted
decimal_printed x h = decimal_by_steps AsPrinted one_printed more_printed x h 19 (omega arith)

-- ---- how a loop finds them

-- `left` is still to be put before the digits behind place `first` of an area of 20
pub record Found (number : ℕ) (digits : List ℕ) (first left : ℕ) : Type 0 where
  pub long : length digits ≡ 20
  pub place : first < 20
  pub few : left < 10 ^ suc first
  pub behind : decimal number ≡ decimal_up_to first left ++ drop (suc first) digits

pub found_none : (number : ℕ) → number < 2 ^ 64 → Found number (replicate 20 0) 19 number
found_none number h = record {
  long = refl;
  place = omega arith;
  few = omega arith;
  behind = sym (append-nil (decimal number));
}

-- the digits from a place on, once one is stored there
drop-set : (digits : List ℕ) (first d : ℕ) → first < length digits → drop first (set digits first d) ≡ d ∷ drop (suc first) digits
drop-set digits first d h =
    rw (set_split digits first d h)
    (drop_at (take first digits) (d ∷ drop (suc first) digits) first (length-take-le first digits (omega arith)))

-- a digit is stored only where there is room for another
pub found-room : (first : ℕ) {number : ℕ} {digits : List ℕ} {left : ℕ} → Found number digits first left → 10 ≤ left → 1 ≤ first
found-room zero {number} {digits} {left} f l = let h : left < 10 ^ 1 = f.few in absurd (omega arith)
found-room (suc first) {number} {digits} {left} f l = omega arith

pub found_more : (first : ℕ) {number : ℕ} {digits : List ℕ} {left : ℕ} → Found number digits first left → 10 ≤ left
    → Found number (set digits first (48 + left % 10)) (first - 1) (left / 10)
found_more zero {number} {digits} {left} f l = let h : left < 10 ^ 1 = f.few in absurd (omega arith)
found_more (suc first) {number} {digits} {left} f l =
    let e : suc first - 1 ≡ first = omega arith in
    rw e
    (record {
      long = length-set digits (suc first) (48 + left % 10) ∙ f.long;
      place = omega (arith, f.place);
      few = tenth (suc first) left f.few;
      behind = f.behind
          ∙ rw (decimal_more first left l, drop-set digits (suc first) (48 + left % 10) (omega (arith, f.long, f.place)))
          (append_assoc (decimal_up_to first (left / 10)) (digit (left % 10) ∷ []) (drop (suc (suc first)) digits));
    })

-- the last digit to be found is the first; what stands from its place to the end is the number
pub found_all : {number : ℕ} {digits : List ℕ} {first left : ℕ} → Found number digits first left → left < 10
    → decimal number ≡ take (20 - first) (drop first (set digits first (48 + left)))
found_all {number} {digits} {first} {left} f l =
    let stored : List ℕ = set digits first (48 + left) in
    f.behind
    ∙ rw (decimal_one first left l) (sym (drop-set digits first (48 + left) (omega (arith, f.long, f.place))))
    ∙ sym (take_all (20 - first) (drop first stored) (omega (arith, length-drop first stored, length-set digits first (48 + left), f.long)))
