-- Eight bytes made into one number, flipped and taken apart again are turned.
use Prim.Native.Nat.{ℕ, ◌+◌, ◌*◌, ◌/◌, ◌%◌, ◌^◌, ◌<◌}
use mathlib.Core.Path.{◌≡◌, sym, ap, ◌∙◌}
use mathlib.Core.List.{List}
use native.Mathlib.Nat.{mod-lt, zero-lt-suc, le_refl}
use native.Mathlib.Omega.{arith}
use lib.ListN.{length, get_or}
use Rattle.std.specs.Int.{w64, to_le_bytes, from_le_bytes}
use Rattle.std.proofs.lemmas.Nat.{le_bytes_8}
use Rattle.relation.specs.Sets.{has}
use Rattle.relation.proofs.Member.{ext_byte}
use Rattle.lists.specs.Tabled.{tabled}
use Rattle.lanes.specs.Lists.{list_of, mask_of}
use Rattle.lanes.proofs.Lists.{list_at, list_same}
use Rattle.lanes.proofs.Sets.{has_mask, mask_below}
use Rattle.lanes.proofs.Shifts.{has_shr, has-low}
use Rattle.rows.specs.Inner.{turned_of, Flipped}

-- ---- a number of 64 bits and its bytes

bytes_list : (n : ℕ) → to_le_bytes w64 n ≡ list_of 8 (λ r. n / 2 ^ (8 * r) % 256)
unfolding tabled
bytes_list n = let first : n ≡ n / 1 = omega arith in cc

-- byte g of the number that eight bytes make
pub byte_of : (b : List ℕ) (n g : ℕ) → length b ≡ 8 → ((i : ℕ) → get_or b i 0 < 256) → n ≡ from_le_bytes w64 b → g < 8
    → n / 2 ^ (8 * g) % 256 ≡ get_or b g 0
byte_of b n g long small e h =
    sym (list_at 8 (λ r. n / 2 ^ (8 * r) % 256) g h)
    ∙ ap (λ (l : List ℕ). get_or l g 0) (sym (bytes_list n) ∙ le_bytes_8 b n long small e)

-- bit i of byte g is bit 8 g + i of the number
bit_of : (b : List ℕ) (n g i : ℕ) → length b ≡ 8 → ((i : ℕ) → get_or b i 0 < 256) → n ≡ from_le_bytes w64 b → g < 8 → i < 8
    → has n (8 * g + i) ≡ has (get_or b g 0) i
bit_of b n g i long small e h l =
    sym (has_shr n (8 * g) i) ∙ sym (has-low (n / 2 ^ (8 * g)) 8 i l) ∙ ap (λ (x : ℕ). has x i) (byte_of b n g long small e h)

-- ---- the bytes of the flipped one

turned-byte : (b : List ℕ) (n x r : ℕ) → length b ≡ 8 → ((i : ℕ) → get_or b i 0 < 256) → n ≡ from_le_bytes w64 b → Flipped n x → r < 8
    → x / 2 ^ (8 * r) % 256 ≡ mask_of 8 (λ g. has (get_or b g 0) r)
turned-byte b n x r long small e f h =
    ext_byte (x / 2 ^ (8 * r) % 256) (mask_of 8 (λ g. has (get_or b g 0) r)) (mod-lt (x / 2 ^ (8 * r)) (zero-lt-suc 255))
    (mask_below 8 (λ g. has (get_or b g 0) r) 8 (le_refl 8))
    (λ g l.
    let place : 8 * ((8 * r + g) % 8) + (8 * r + g) / 8 ≡ 8 * g + r = omega arith in
    has-low (x / 2 ^ (8 * r)) 8 g l ∙ has_shr x (8 * r) g ∙ f.bit (8 * r + g) (omega arith)
    ∙ ap (has n) place ∙ bit_of b n g r long small e l h ∙ sym (has_mask 8 (λ g. has (get_or b g 0) r) g l))

pub turned_bytes : (b : List ℕ) (n x : ℕ) → length b ≡ 8 → ((i : ℕ) → get_or b i 0 < 256) → n ≡ from_le_bytes w64 b → Flipped n x
    → to_le_bytes w64 x ≡ turned_of b
unfolding turned_of
turned_bytes b n x long small e f = bytes_list x ∙ list_same 8 _ _ (λ r h. turned-byte b n x r long small e f h)
