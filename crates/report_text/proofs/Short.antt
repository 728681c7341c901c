-- No report is longer than the buffer: at most 40 bytes for each of 2,016 pairs, and a first line.
use mathlib.Core.Bool.{Bool, true, false, cond}
use mathlib.Core.List.{List, [], ◌∷◌, ◌++◌}
use Prim.Native.Nat.{ℕ, zero, suc, ◌+◌, ◌*◌, ◌≤◌, ◌<◌, zero-le}
use native.Mathlib.Omega.{arith}
use lib.Dec.{T, ltb, leb, leb→le}
use lib.ListN.{length, get_or, length-append}
use Rattle.relation.specs.Sets.{size}
use Rattle.relation.proofs.Tests.{all, all_at}
use Rattle.matrix.specs.Cells.{row, column}
use Rattle.text.specs.Decimal.{decimal}
use Rattle.text.proofs.DecimalLaws.{decimal-length, decimal-most}
use Rattle.text.proofs.LineLaws.{length_last, length_more}
use Rattle.report_text.specs.Class.{class_of}
use Rattle.report_text.specs.Words.{accepted_word, refused_word}
use Rattle.report_text.specs.Report.{accepted_line, refusal_line, sets_line, pair_line, cell_line, pair_lines}

-- ---- lines

pub refusal-short : (number first second third : ℕ) → length (refusal_line number first second third) ≤ 92
refusal-short number first second third =
    omega (
      arith,
      length_more refused_word (decimal number) (decimal first ∷ decimal second ∷ decimal third ∷ []),
      length_more (decimal number) (decimal first) (decimal second ∷ decimal third ∷ []),
      length_more (decimal first) (decimal second) (decimal third ∷ []),
      length_more (decimal second) (decimal third) [],
      length_last (decimal third),
      decimal-most 19 number,
      decimal-most 19 first,
      decimal-most 19 second,
      decimal-most 19 third,
    )

accepted-short : (regions rounds : ℕ) → length (accepted_line regions rounds) ≤ 51
accepted-short regions rounds =
    omega (
      arith,
      length_more accepted_word (decimal regions) (decimal rounds ∷ []),
      length_more (decimal regions) (decimal rounds) [],
      length_last (decimal rounds),
      decimal-most 19 regions,
      decimal-most 19 rounds,
    )

-- identifiers have 32 bits, sets are bytes and marks have 16 bits
sets-short : (first second arc refined there back : ℕ) → first < 4294967296 → second < 4294967296 → refined < 256 → there < 65536 → back < 65536
    → length (sets_line first second arc refined there back) ≤ 40
sets-short first second arc refined there back f s r t b =
    let class : List ℕ = class_of (size arc) (size refined) ∷ [] in
    omega (
      arith,
      length_more (decimal first) (decimal second) (decimal refined ∷ class ∷ decimal there ∷ decimal back ∷ []),
      length_more (decimal second) (decimal refined) (class ∷ decimal there ∷ decimal back ∷ []),
      length_more (decimal refined) class (decimal there ∷ decimal back ∷ []),
      length_more class (decimal there) (decimal back ∷ []),
      length_more (decimal there) (decimal back) [],
      length_last (decimal back),
      decimal-length 19 9 first (omega arith),
      decimal-length 19 9 second (omega arith),
      decimal-length 19 2 refined (omega arith),
      decimal-length 19 4 there (omega arith),
      decimal-length 19 4 back (omega arith),
    )

-- ---- pairs

-- how many of the first `count` cells are above the diagonal
above : ℕ → ℕ → ℕ
above zero n = 0
above (suc count) n = above count n + cond (ltb (row n count) (column n count)) 1 0

-- no more than 2,016 of a matrix, tested for each number of regions
few_above : ℕ → Bool
few_above n = leb (above (n * n) n) 2016

tested : T (all 65 few_above)
unfolding all few_above above
tested = tt

pairs_few : (n : ℕ) → n ≤ 64 → above (n * n) n ≤ 2016
unfolding few_above
pairs_few n h = leb→le (above (n * n) n) 2016 (all_at 65 few_above tested n (omega arith))

-- ---- reports

-- what is printed has so many bits
pub record Sized (identifiers network marks : List ℕ) : Type 0 where
  pub identifiers-small : (k : ℕ) → get_or identifiers k 0 < 4294967296
  pub sets-small : (k : ℕ) → get_or network k 0 < 256
  pub marks-small : (k : ℕ) → get_or marks k 0 < 65536

shown_or_not : (b : Bool) (text : List ℕ) (most : ℕ) → length text ≤ most → length (cond b text []) ≤ most * cond b 1 0
shown_or_not true text most h = omega arith
shown_or_not false text most h = zero-le

module _ (n : ℕ) (identifiers arcs network marks : List ℕ) (s : Sized identifiers network marks) where
  cell-short : (p : ℕ) → length (cell_line n identifiers arcs network marks p) ≤ 40 * cond (ltb (row n p) (column n p)) 1 0
  cell-short p =
      let i : ℕ = row n p in
      let j : ℕ = column n p in
      shown_or_not (ltb i j) (pair_line n identifiers arcs network marks i j) 40
      (sets-short _ _ _ _ _ _ (s.identifiers-small i) (s.identifiers-small j) (s.sets-small (i * n + j)) (s.marks-small (i * n + j))
      (s.marks-small (j * n + i)))

  pairs_short : (count : ℕ) → length (pair_lines count n identifiers arcs network marks) ≤ 40 * above count n
  unfolding pair_lines above
  pairs_short zero = zero-le
  pairs_short (suc count) =
      omega (
        arith,
        length-append (pair_lines count n identifiers arcs network marks) (cell_line n identifiers arcs network marks count),
        pairs_short count,
        cell-short count,
      )

  pub accepted_report_short : (rounds : ℕ) → n ≤ 64
      → length (accepted_line n rounds ++ pair_lines (n * n) n identifiers arcs network marks) ≤ 131072
  accepted_report_short rounds few =
      omega (
        arith,
        length-append (accepted_line n rounds) (pair_lines (n * n) n identifiers arcs network marks),
        accepted-short n rounds,
        pairs_short (n * n),
        pairs_few n few,
      )
