-- The words of a row made eight lanes at a time, and the cells of a row given back.
use Prim.Native.Nat.{ℕ, zero, suc, ◌+◌, ◌*◌, ◌-◌, ◌/◌, ◌%◌, ◌^◌, ◌<◌, ◌≤◌}
use mathlib.Core.Path.{◌≡◌, refl, sym, ap, ap₂, ◌∙◌}
use mathlib.Core.Bool.{Bool, true, false, ◌||◌, or-false}
use mathlib.Core.List.{List, [], ◌∷◌, ◌++◌}
use native.Mathlib.Nat.{mod-lt, not-suc-le-zero, le_of_suc-le-suc, le_refl}
use native.Mathlib.Decide.{dec_lt}
use native.Mathlib.Omega.{arith}
use borrow.Author.Tests.{le-leb, lt-leb}
use lib.Bits.{bit_or}
use lib.Dec.{T}
use Rattle.std.proofs.lemmas.List.{get_or-take, length-take-le}
use lib.ListN.{length, get_or, take, replicate, get_or-eq_default}
use lib.Pow.{shl_exact, pow_pos}
use Rattle.relation.specs.Sets.{has, universal, union_of}
use Rattle.relation.proofs.Tests.{same, all, all_at}
use Rattle.relation.proofs.Member.{ext, has-unite}
use Rattle.lists.specs.Tabled.{tabled}
use Rattle.lanes.specs.Lists.{list_of, mask_of}
use Rattle.lanes.specs.Words.{set_at}
use Rattle.lanes.proofs.Lists.{list_length, list_at, list_same, list_of_words, part_stored}
use Rattle.lanes.proofs.Made.{by_places}
use Rattle.lanes.proofs.Sets.{has_mask, mask_below, set_is}
use Rattle.lanes.proofs.Shifts.{has_shr, has_shl, has_shl_below, has-low, has_beyond}
use Rattle.lanes.proofs.Digits.{all_ones}
use Rattle.rows.specs.Rows.{row_words, row_cells, row_after}
use Rattle.rows.specs.Inner.{turned_of, eight_from}

-- ---- a number by its bits, some of them more from place n on

-- the bits of a union of the first n and of those that a second number has from n on
joined_bits : (test : ℕ → Bool) (n e more : ℕ) → n ≤ e → ((i : ℕ) → i < n → has more i ≡ false)
    → ((i : ℕ) → n ≤ i → i < e → has more i ≡ test i) → ((i : ℕ) → e ≤ i → has more i ≡ false)
    → bit_or (mask_of n test) more ≡ mask_of e test
joined_bits test n e more h low mid high =
    ext (bit_or (mask_of n test) more) (mask_of e test) (λ i.
    has-unite (mask_of n test) more i ∙ go i (dec_lt i n) (dec_lt i e))
  where
    beyond : (k i : ℕ) → k ≤ i → has (mask_of k test) i ≡ false
    beyond k i l = has_beyond (mask_of k test) k i (mask_below k test k (le_refl k)) l

    go : (i : ℕ) → Dec (i < n) → Dec (i < e) → has (mask_of n test) i || has more i ≡ has (mask_of e test) i
    go i (yes a) d =
        ap₂ ◌||◌ (has_mask n test i a) (low i a) ∙ or-false (test i) ∙ sym (has_mask e test i (omega arith))
    go i (no a) (yes c) =
        ap₂ ◌||◌ (beyond n i (omega arith)) (mid i (omega arith) c) ∙ sym (has_mask e test i c)
    go i (no a) (no c) =
        ap₂ ◌||◌ (beyond n i (omega arith)) (high i (omega arith)) ∙ sym (beyond e i (omega arith))

-- the bits of a number moved up by n
up_at : (a n i : ℕ) → n ≤ i → has (a * 2 ^ n) i ≡ has a (i - n)
up_at a n i h =
    let place : n + (i - n) ≡ i = omega arith in
    ap (has (a * 2 ^ n)) (sym place) ∙ has_shl a n (i - n)

-- ---- the words of a row, eight lanes at a time

-- the words of the first n lanes
unfoldable pub row_upto : List ℕ → ℕ → List ℕ
row_upto cells n = list_of 8 (λ r. mask_of n (λ j. has (get_or cells j universal) r))

pub row-none : (cells : List ℕ) → replicate {A = ℕ} 8 0 ≡ row_upto cells 0
unfolding row_upto tabled mask_of union_of
row-none cells = refl

eight_more : (test : ℕ → Bool) (eight : ℕ → Bool) (n : ℕ) → n ≤ 56 → ((g : ℕ) → g < 8 → eight g ≡ test (n + g))
    → bit_or (mask_of n test) (mask_of 8 eight * 2 ^ n % 2 ^ 64) ≡ mask_of (n + 8) test
eight_more test eight n h e =
    let small = mask_below 8 eight 8 (le_refl 8) in
    ap (bit_or (mask_of n test)) (shl_exact 8 n 64 small (omega arith))
    ∙ joined_bits test n (n + 8) (mask_of 8 eight * 2 ^ n) (omega arith)
    (λ i l. has_shl_below (mask_of 8 eight) n i l)
    (λ i a b.
    let place : n + (i - n) ≡ i = omega arith in
    up_at (mask_of 8 eight) n i a ∙ has_mask 8 eight (i - n) (omega arith) ∙ e (i - n) (omega arith) ∙ ap test place)
    (λ i a. up_at (mask_of 8 eight) n i (omega arith) ∙ has_beyond (mask_of 8 eight) 8 (i - n) small (omega arith))

pub row_more : (cells w b t : List ℕ) (n next : ℕ) → n ≤ 56 → next ≡ n + 8 → w ≡ row_upto cells n
    → b ≡ list_of 8 (λ g. get_or cells (n + g) universal) → t ≡ turned_of b
    → list_of 8 (λ k. bit_or (get_or w k 0) (get_or t k 0 * 2 ^ n % 2 ^ 64)) ≡ row_upto cells next
unfolding row_upto turned_of
row_more cells w b t n next h s e q u =
    rw s (
    list_same 8 _ _ (λ r l.
    ap₂ (λ (x y : ℕ). bit_or x (y * 2 ^ n % 2 ^ 64))
    (ap (λ (w : List ℕ). get_or w r 0) e ∙ list_at 8 (λ r. mask_of n (λ j. has (get_or cells j universal) r)) r l)
    (ap (λ (w : List ℕ). get_or w r 0) u ∙ list_at 8 (λ r. mask_of 8 (λ g. has (get_or b g 0) r)) r l)
    ∙ eight_more (λ j. has (get_or cells j universal) r) (λ g. has (get_or b g 0) r) n h
    (λ g m. ap (λ (x : ℕ). has x r) (ap (λ (w : List ℕ). get_or w g 0) q ∙ list_at 8 (λ g. get_or cells (n + g) universal) g m))))

pub row_all : (cells w : List ℕ) (n : ℕ) → n ≡ 64 → w ≡ row_upto cells n → w ≡ row_words cells
unfolding row_upto row_words
row_all cells w n q e = e ∙ ap (row_upto cells) q

-- ---- the lanes past the row's end

universal-has : (r : ℕ) → r < 8 → T (has universal r)
unfolding all has
universal-has r h = all_at 8 (has universal) tt r h

in_universal : (r : ℕ) → r < 8 → has universal r ≡ true
in_universal r h = same (has universal r) true (λ t. tt) (λ t. universal-has r h)

pub row_rest : (cells w : List ℕ) (n : ℕ) → n < 64 → length cells ≤ n → w ≡ row_upto cells n
    → list_of 8 (λ k. bit_or (get_or w k 0) (18446744073709551615 * 2 ^ n % 2 ^ 64)) ≡ row_words cells
unfolding row_upto row_words
row_rest cells w n h past e =
    list_same 8 _ _ (λ r l.
    ap (λ (x : ℕ). bit_or x (18446744073709551615 * 2 ^ n % 2 ^ 64))
    (ap (λ (w : List ℕ). get_or w r 0) e ∙ list_at 8 (λ r. mask_of n (λ j. has (get_or cells j universal) r)) r l)
    ∙ joined_bits (λ j. has (get_or cells j universal) r) n 64 (18446744073709551615 * 2 ^ n % 2 ^ 64) (omega arith)
    (λ i a. has-low (18446744073709551615 * 2 ^ n) 64 i (omega arith) ∙ has_shl_below 18446744073709551615 n i a)
    (λ i a b. has-low (18446744073709551615 * 2 ^ n) 64 i b ∙ up_at 18446744073709551615 n i a ∙ all_ones (i - n) (omega arith)
    ∙ sym (ap (λ (x : ℕ). has x r) (get_or-eq_default cells universal (omega arith)) ∙ in_universal r l))
    (λ i a. has_beyond (18446744073709551615 * 2 ^ n % 2 ^ 64) 64 i (mod-lt (18446744073709551615 * 2 ^ n) (pow_pos 64)) a))

-- ---- the cells of a row, eight at a time

-- lane at + g of w is byte g of what eight lanes from at on turn to
lane_byte : (w b : List ℕ) (at g : ℕ) → b ≡ turned_of (eight_from at w) → g < 8 → get_or b g 0 ≡ set_at w (at + g)
unfolding turned_of eight_from
lane_byte w b at g u h =
    let lanes : ℕ → ℕ = λ r. get_or w r 0 / 2 ^ at % 256 in
    let byte : ℕ = mask_of 8 (λ k. has (get_or (list_of 8 lanes) k 0) g) in
    let small : byte < 256 = mask_below 8 (λ k. has (get_or (list_of 8 lanes) k 0) g) 8 (le_refl 8) in
    ap (λ (x : List ℕ). get_or x g 0) u ∙ list_at 8 (λ r. mask_of 8 (λ k. has (get_or (list_of 8 lanes) k 0) r)) g h
    ∙ sym (set_is w (at + g) byte small (λ r l.
    sym (has_mask 8 (λ k. has (get_or (list_of 8 lanes) k 0) g) r l
    ∙ ap (λ (x : ℕ). has x g) (list_at 8 lanes r l)
    ∙ has-low (get_or w r 0 / 2 ^ at) 8 g h ∙ has_shr (get_or w r 0) at g)))

-- the cells of one block more, or of the first `count` lanes of one
pub block_given : (w cells eight b rest : List ℕ) (at next count : ℕ) → next ≡ at + count → count ≤ 8 → take at cells ≡ list_of at (set_at w)
    → eight ≡ take count b → b ≡ turned_of (eight_from at w) → take next (take at cells ++ (eight ++ rest)) ≡ list_of next (set_at w)
unfolding turned_of
block_given w cells eight b rest at next count e few given part u =
    let some : next - at ≡ count = omega arith in
    let long : length b ≡ 8 = ap length u ∙ list_length 8 _ in
    part_stored cells eight rest (set_at w) at next (omega arith) given
    (part
    ∙ by_places (next - at) (λ g. set_at w (at + g)) (take count b) (length-take-le count b (omega arith) ∙ sym some)
    (λ g l. get_or-take count b g 0 (omega arith) ∙ lane_byte w b at g u (omega arith)))

-- ---- a row and its words

-- what is read inside a list does not depend on what is read past its end
pub read_inside : (l : List ℕ) (j a b : ℕ) → j < length l → get_or l j a ≡ get_or l j b
read_inside [] j a b h = absurd (not-suc-le-zero h)
read_inside (x ∷ xs) zero a b h = refl
read_inside (x ∷ xs) (suc j) a b h = read_inside xs j a b (le_of_suc-le-suc h)

-- the set of each lane is the cell, and the universal set past the row's end
pub set-row : (cells : List ℕ) (x : ℕ) → x < 64 → get_or cells x universal < 256 → set_at (row_words cells) x ≡ get_or cells x universal
unfolding row_words
set-row cells x h b =
    set_is (row_words cells) x (get_or cells x universal) b (λ r l.
    ap (λ (w : ℕ). has w x) (list_at 8 (λ r. mask_of 64 (λ j. has (get_or cells j universal) r)) r l)
    ∙ has_mask 64 (λ j. has (get_or cells j universal) r) x h)

-- and back
pub row_back : (cells : List ℕ) → length cells ≤ 64 → ((j : ℕ) → get_or cells j universal < 256)
    → row_cells (length cells) (row_words cells) ≡ cells
unfolding row_cells
row_back cells h b =
    list_same (length cells) _ _ (λ j l. set-row cells j (omega arith) (b j) ∙ read_inside cells j universal 0 l)
    ∙ list_of_words (length cells) cells refl

-- ---- rows of at most 64 cells, and longer ones

pub row-served : (words cells : List ℕ) → length cells ≤ 64 → row_cells (length cells) words ≡ row_after words cells
unfolding row_after
row-served words cells h = rw (le-leb (length cells) 64 h)

pub row_kept : (words cells : List ℕ) → 64 < length cells → cells ≡ row_after words cells
unfolding row_after
row_kept words cells h = rw (lt-leb (length cells) 64 h)
