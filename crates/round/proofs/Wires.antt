-- The 64 words that each relation gives with the sets of a row, laid block by block.
use Prim.Native.Nat.{ℕ, ◌+◌, ◌*◌, ◌/◌, ◌%◌, ◌<◌}
use mathlib.Core.Path.{◌≡◌, sym, ap, ap₂, ◌∙◌, subst}
use mathlib.Core.List.{List}
use native.Mathlib.Nat.{not-suc-le-zero}
use native.Mathlib.Omega.{arith}
use lib.ListN.{length, get_or}
use lib.Seq.{ext_get_or, paste, length-paste}
use Rattle.lists.proofs.Splits.{split_lt}
use Rattle.lanes.specs.Words.{wired}
use Rattle.lanes.proofs.Lists.{list_length, list_at}
use Rattle.lanes.proofs.Wiring.{wired-length}
use Rattle.planes.specs.Calls.{stored}
use Rattle.planes.proofs.Laying.{laid-before, laid_in, stored_there}
use Rattle.round.specs.Onward.{wired_all}
use Rattle.round.specs.Inner.{Wired}

-- ---- the words of one relation more

pub wired-start : (b l : List ℕ) → length l ≡ 64 → Wired b l 0
wired-start b l h = record { long = h; word = λ p r l k. absurd (not-suc-le-zero l) }

pub wired_more : (b l w : List ℕ) (p : ℕ) → p < 8 → Wired b l p → w ≡ wired p b → Wired b (stored l p w) (p + 1)
wired_more b l w p h d e =
    let long = d.long in
    let eight : length w ≡ 8 = ap length e ∙ wired-length p b in
    rw (stored_there l p w (omega arith)) (record {
      long = length-paste l (8 * p) w 8 (omega arith) (omega arith) ∙ long;
      word = λ s r m k. split_lt s p
          (λ o. laid-before l (8 * p) w 8 (omega arith) eight (8 * s + r) (omega arith) ∙ d.word s r o k)
          (λ o. let same : p ≡ s = omega arith in
          subst (λ (x : ℕ). get_or (paste l (8 * p) w 8) (8 * x + r) 0 ≡ get_or (wired x b) r 0) same
          (laid_in l (8 * p) w 8 (omega arith) eight r k ∙ ap (λ (x : List ℕ). get_or x r 0) e));
    })

-- all eight relations' words
pub wired_all_lem : (b l : List ℕ) → Wired b l 8 → l ≡ wired_all b
unfolding wired_all
wired_all_lem b l w =
    let long = w.long in
    let len = list_length 64 (λ v. get_or (wired (v / 8) b) (v % 8) 0) in
    ext_get_or 0 l _ (long ∙ sym len) (λ v h.
    let back : 8 * (v / 8) + v % 8 ≡ v = omega arith in
    ap (λ (k : ℕ). get_or l k 0) (sym back) ∙ w.word (v / 8) (v % 8) (omega arith) (omega arith)
    ∙ sym (list_at 64 (λ v. get_or (wired (v / 8) b) (v % 8) 0) v (omega arith)))

pub all_wired : (b : List ℕ) → Wired b (wired_all b) 8
unfolding wired_all
all_wired b = record {
  long = list_length 64 _;
  word = λ p r h k.
      let row : (8 * p + r) / 8 ≡ p = omega arith in
      let at : (8 * p + r) % 8 ≡ r = omega arith in
      list_at 64 (λ v. get_or (wired (v / 8) b) (v % 8) 0) (8 * p + r) (omega arith) ∙ ap₂ (λ (x y : ℕ). get_or (wired x b) y 0) row at;
}
