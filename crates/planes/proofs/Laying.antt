-- Eight words laid into an area, block by block.
use Prim.Native.Nat.{ℕ, zero, suc, ◌+◌, ◌*◌, ◌-◌, ◌/◌, ◌<◌, ◌≤◌}
use mathlib.Core.Path.{◌≡◌, refl, sym, ap, ap₂, ◌∙◌}
use mathlib.Core.Bool.{Bool, true, false, cond}
use mathlib.Core.List.{List, ◌++◌, append_assoc}
use native.Mathlib.Omega.{arith}
use borrow.Author.Tests.{lt-ltb, le-ltb}
use lib.ListN.{length, get_or, take, drop, replicate, length-drop, get_or-append}
use borrow.Rule.Slice.PartMut.{put_mid}
use lib.Seq.{ext_get_or, take_all, drop-drop, paste, length-paste, length_paste_head, length-take-le, get_or-append-add, get_or-take, get_or-drop}
use Rattle.lists.proofs.Splits.{split_lt}
use Rattle.lists.specs.Laid.{laid}
use Rattle.lists.proofs.LaidLaws.{length-laid, get_or-laid_in, get_or-laid_past}
use Rattle.lanes.proofs.Lists.{list_length, list_at, list_same, list_of_words}
use Rattle.std.specs.Simd.{first_chunks}
use Rattle.planes.specs.Planes.{block_of}
use Rattle.planes.specs.Calls.{has_block, loaded, stored}

-- ---- what stands in the area after eight words are laid from at on

module _ (l : List ℕ) (at : ℕ) (w : List ℕ) (n : ℕ) (h : at + n ≤ length l) (e : length w ≡ n) where
  pub laid-before : (k : ℕ) → k < at → get_or (paste l at w n) k 0 ≡ get_or l k 0
  laid-before k b =
      let head = length_paste_head l at w n (omega arith) (omega arith) in
      let left = length-take-le at l (omega arith) in
      get_or-append (take at l ++ take n w) (drop (at + n) l) 0 k (omega arith)
      ∙ get_or-append (take at l) (take n w) 0 k (omega arith) ∙ get_or-take at l k 0 b

  pub laid_in : (r : ℕ) → r < n → get_or (paste l at w n) (at + r) 0 ≡ get_or w r 0
  laid_in r b =
      let head = length_paste_head l at w n (omega arith) (omega arith) in
      let left = length-take-le at l (omega arith) in
      get_or-append (take at l ++ take n w) (drop (at + n) l) 0 (at + r) (omega arith)
      ∙ ap (λ (k : ℕ). get_or (take at l ++ take n w) (k + r) 0) (sym left)
      ∙ get_or-append-add (take at l) (take n w) r 0 ∙ get_or-take n w r 0 b

  pub laid_after : (k : ℕ) → get_or (paste l at w n) (at + n + k) 0 ≡ get_or l (at + n + k) 0
  laid_after k =
      let head = length_paste_head l at w n (omega arith) (omega arith) in
      ap (λ (x : ℕ). get_or (paste l at w n) (x + k) 0) (sym head)
      ∙ get_or-append-add (take at l ++ take n w) (drop (at + n) l) k 0 ∙ get_or-drop (at + n) l k 0

-- a part laid behind what is laid before it
pub part_laid : (filled before area w : List ℕ) (at n : ℕ) → at + n ≤ length filled → length before ≡ length filled → length w ≡ n
    → ((r : ℕ) → r < n → get_or w r 0 ≡ get_or filled (at + r) 0) → area ≡ laid at filled before → paste area at w n ≡ laid (at + n) filled before
part_laid filled before area w at n h same long e a =
    let in_area : length area ≡ length filled = ap length a ∙ length-laid at filled before (omega arith) (omega arith) ∙ same in
    let made = length-laid (at + n) filled before (omega arith) (omega arith) in
    let kept = length-paste area at w n (omega arith) (omega arith) in
    ext_get_or 0 (paste area at w n) _ (kept ∙ in_area ∙ sym same ∙ sym made) (λ q l.
    split_lt q at
    (λ u.
    laid-before area at w n (omega arith) long q u ∙ ap (λ (x : List ℕ). get_or x q 0) a
    ∙ get_or-laid_in at filled before q u (omega arith)
    ∙ sym (get_or-laid_in (at + n) filled before q (omega arith) (omega arith)))
    (λ u. split_lt q (at + n)
    (λ v.
    let place : at + (q - at) ≡ q = omega arith in
    ap (λ (x : ℕ). get_or (paste area at w n) x 0) (sym place) ∙ laid_in area at w n (omega arith) long (q - at) (omega arith)
    ∙ e (q - at) (omega arith) ∙ ap (λ (x : ℕ). get_or filled x 0) place
    ∙ sym (get_or-laid_in (at + n) filled before q (omega arith) (omega arith)))
    (λ v.
    let place : at + n + (q - (at + n)) ≡ q = omega arith in
    ap (λ (x : ℕ). get_or (paste area at w n) x 0) (sym place) ∙ laid_after area at w n (omega arith) long (q - (at + n))
    ∙ ap (λ (x : ℕ). get_or area x 0) place ∙ ap (λ (x : List ℕ). get_or x q 0) a
    ∙ get_or-laid_past at filled before q (omega arith) (omega arith)
    ∙ sym (get_or-laid_past (at + n) filled before q (omega arith) (omega arith)))))

-- block b behind the blocks before it
pub block_laid : (planes before area w : List ℕ) (b : ℕ) → 8 * b + 8 ≤ length planes → length before ≡ length planes
    → w ≡ block_of planes b → area ≡ laid (8 * b) planes before → paste area (8 * b) w 8 ≡ laid (8 * (b + 1)) planes before
unfolding block_of
block_laid planes before area w b h same e a =
    let next : 8 * b + 8 ≡ 8 * (b + 1) = omega arith in
    part_laid planes before area w (8 * b) 8 h same (ap length e ∙ list_length 8 _)
    (λ r l. ap (λ (x : List ℕ). get_or x r 0) e ∙ list_at 8 (λ r. get_or planes (8 * b + r) 0) r l) a
    ∙ ap (λ (c : ℕ). laid c planes before) next

-- a part that was lent and is put back
pub put_back : (area w : List ℕ) (at count n : ℕ) → count ≡ n → length w ≡ n → put_mid at count area w ≡ paste area at w n
put_back area w at count n e long =
    ap (λ (c : ℕ). put_mid at c area w) e
    ∙ sym (append_assoc (take at area) w (drop n (drop at area)))
    ∙ ap₂ (λ (x y : List ℕ). take at area ++ x ++ y) (sym (take_all n w (omega arith))) (drop-drop n at area)

-- ---- a block that is there

there : (words b : ℕ) → 8 * b + 8 ≤ words → has_block words b ≡ true
there words b h = lt-ltb b (words / 8) (omega arith)

pub loaded-there : (planes : List ℕ) (b : ℕ) → 8 * b + 8 ≤ length planes → loaded planes b ≡ block_of planes b
unfolding loaded
loaded-there planes b h = ap (λ (t : Bool). cond t (block_of planes b) (replicate 8 0)) (there (length planes) b h)

pub stored_there : (planes : List ℕ) (b : ℕ) (words : List ℕ) → 8 * b + 8 ≤ length planes → stored planes b words ≡ paste planes (8 * b) words 8
unfolding stored
stored_there planes b words h = ap (λ (t : Bool). cond t (paste planes (8 * b) words 8) planes) (there (length planes) b h)

-- block b, put behind the blocks before it
pub block_put : (planes before area w : List ℕ) (b : ℕ) → 8 * b + 8 ≤ length planes → length before ≡ length planes → length area ≡ length planes
    → w ≡ block_of planes b → area ≡ laid (8 * b) planes before → stored area b w ≡ laid (8 * (b + 1)) planes before
block_put planes before area w b h same long e a = stored_there area b w (omega arith) ∙ block_laid planes before area w b h same e a

-- eight words that are put where a part of the planes was lent
pub block_lent : (planes w : List ℕ) (b count : ℕ) → b < length planes / 8 → length w ≡ 8 → count ≡ 8 → put_mid (8 * b) count planes w ≡ stored planes b w
block_lent planes w b count h long e = put_back planes w (8 * b) count 8 e long ∙ sym (stored_there planes b w (omega arith))

-- one that is not
absent : (words b : ℕ) → words / 8 ≤ b → has_block words b ≡ false
absent words b h = le-ltb b (words / 8) h

pub loaded_absent : (planes : List ℕ) (b : ℕ) → length planes / 8 ≤ b → loaded planes b ≡ replicate 8 0
unfolding loaded
loaded_absent planes b h = ap (λ (t : Bool). cond t (block_of planes b) (replicate 8 0)) (absent (length planes) b h)

pub stored_absent : (planes : List ℕ) (b : ℕ) (words : List ℕ) → length planes / 8 ≤ b → stored planes b words ≡ planes
unfolding stored
stored_absent planes b words h = ap (λ (t : Bool). cond t (paste planes (8 * b) words 8) planes) (absent (length planes) b h)

-- ---- the chunks of eight words

chunk_at : (k : ℕ) (xs d : List ℕ) (i : ℕ) → i < k → get_or (first_chunks 8 k xs) i d ≡ take 8 (drop (8 * i) xs)
chunk_at zero xs d i h = absurd (omega arith)
chunk_at (suc k) xs d zero h = refl
chunk_at (suc k) xs d (suc i) h =
    let next : 8 + 8 * i ≡ 8 * suc i = omega arith in
    chunk_at k (drop 8 xs) d i (omega arith) ∙ ap (take 8) (drop-drop (8 * i) 8 xs ∙ ap (λ (n : ℕ). drop n xs) next)

no_chunk : (k : ℕ) (xs d : List ℕ) (i : ℕ) → k ≤ i → get_or (first_chunks 8 k xs) i d ≡ d
no_chunk zero xs d i h = refl
no_chunk (suc k) xs d zero h = absurd (omega arith)
no_chunk (suc k) xs d (suc i) h = no_chunk k (drop 8 xs) d i (omega arith)

chunk_block : (planes : List ℕ) (b : ℕ) → 8 * b + 8 ≤ length planes → take 8 (drop (8 * b) planes) ≡ block_of planes b
unfolding block_of
chunk_block planes b h =
    let chunk : List ℕ = take 8 (drop (8 * b) planes) in
    let behind = length-drop (8 * b) planes in
    sym (list_of_words 8 chunk (length-take-le 8 (drop (8 * b) planes) (omega arith)))
    ∙ list_same 8 (λ r. get_or chunk r 0) (λ r. get_or planes (8 * b + r) 0)
    (λ r l. get_or-take 8 (drop (8 * b) planes) r 0 l ∙ get_or-drop (8 * b) planes r 0)

-- the chunk with the number b, or eight empty words
pub chunk_loaded : (planes : List ℕ) (b : ℕ) → get_or (first_chunks 8 (length planes / 8) planes) b (replicate 8 0) ≡ loaded planes b
chunk_loaded planes b =
    split_lt b (length planes / 8)
    (λ h. chunk_at (length planes / 8) planes (replicate 8 0) b h ∙ chunk_block planes b (omega arith) ∙ sym (loaded-there planes b (omega arith)))
    (λ h. no_chunk (length planes / 8) planes (replicate 8 0) b h ∙ sym (loaded_absent planes b h))
