-- The block that is made through the chosen regions is the block of the round, lane by lane.
use Prim.Native.Nat.{ℕ, suc, ◌+◌, ◌*◌, ◌/◌, ◌^◌, ◌<◌, ◌≤◌}
use mathlib.Core.Path.{◌≡◌, refl, sym, ap, ap₂, ◌∙◌, subst}
use mathlib.Core.Bool.{Bool, true, false, not, ◌&&◌, true≢false}
use mathlib.Core.List.{List}
use native.Mathlib.Nat.{le_refl, le_trans, lt_of_le_of_lt}
use native.Mathlib.Omega.{arith}
use lib.Dec.{eqb}
use lib.ListN.{length, get_or, drop, length-drop}
use lib.Seq.{length-paste, length-take-le, get_or-take, get_or-drop}
use Rattle.lists.proofs.Splits.{split_lt, by_test}
use Rattle.relation.specs.Sets.{has, universal, intersect}
use Rattle.relation.specs.Composition.{compose}
use Rattle.matrix.specs.Cells.{cell, column}
use Rattle.lanes.specs.Lists.{some}
use Rattle.lanes.specs.Words.{set_at}
use Rattle.lanes.proofs.Shifts.{has_beyond}
use Rattle.lanes.proofs.InTurn.{upto_keeps, visited_upto}
use Rattle.planes.specs.Planes.{lane, sets_of}
use Rattle.round.specs.Round.{through_live, known, new_set}
use Rattle.planes.specs.Planes.{block_of}
use Rattle.round.specs.Onward.{wired_all, onward_of}
use Rattle.planes.specs.Inner.{lanes_of}
use Rattle.round.specs.Inner.{spread, Wired, Room, part_of, block_through, Chosen}
use Rattle.planes.proofs.Laying.{laid-before, laid_in}
use Rattle.round.proofs.Wires.{all_wired}
use Rattle.round.proofs.Lanes.{set-narrowed, narrowed-length, narrowed_le, set-spread}
use Rattle.planes.proofs.Blocks.{block_length, block_word, set_block, sets_at, words_are}
use Rattle.round.proofs.Going.{narrowing, readying}
use Rattle.round.proofs.LivePlaces.{live_none, live_more, live_skip, live_skip_to, live_same}

-- ---- the words of each live region

-- the regions below count have their words in the area
record Readied (live : ℕ) (old onward : List ℕ) (count : ℕ) (area : List ℕ) : Type 0 where
  long : length area ≡ length onward
  word : (k v : ℕ) → k < count → has live k ≡ true → v < 64 → get_or area (64 * k + v) 0 ≡ get_or (wired_all (block_of old k)) v 0

module _ (live : ℕ) (old onward : List ℕ) (planes : ℕ) (room : Room live planes (length onward)) where
  one_readied : (n : ℕ) (area : List ℕ) → has live n ≡ true → Readied live old onward n area
      → Readied live old onward (suc n) (readying old area n)
  one_readied n area e R =
      let long = R.long in
      let space : 64 * n + 64 ≤ length onward = room.space n e in
      let words : length (wired_all (block_of old n)) ≡ 64 = (all_wired (block_of old n)).long in
      record {
        long = length-paste area (64 * n) (wired_all (block_of old n)) 64 (omega arith) (omega arith) ∙ long;
        word = λ k v h t l. split_lt k n
            (λ u. laid-before area (64 * n) (wired_all (block_of old n)) 64 (omega arith) words (64 * k + v) (omega arith)
            ∙ R.word k v u t l)
            (λ u.
            let same : n ≡ k = omega arith in
            subst (λ (x : ℕ). get_or (readying old area n) (64 * x + v) 0 ≡ get_or (wired_all (block_of old x)) v 0) same
            (laid_in area (64 * n) (wired_all (block_of old n)) 64 (omega arith) words v l));
      }

  all_readied : Readied live old onward 64 (onward_of live old onward)
  unfolding onward_of
  all_readied =
      rw (visited_upto (readying old) onward live)
      (upto_keeps (readying old) (Readied live old onward) onward live
      (record { long = refl; word = λ k v h t l. absurd (omega arith) })
      one_readied
      (λ n area e R. record {
        long = R.long;
        word = λ k v h t l. split_lt k n (λ u. R.word k v u t l)
            (λ u. let same : k ≡ n = omega arith in absurd (true≢false (sym t ∙ ap (has live) same ∙ e)));
      }) 64)

  pub onward_length : length (onward_of live old onward) ≡ length onward
  onward_length = all_readied.long

  pub part_wired : live < 2 ^ 64 → (k : ℕ) → has live k ≡ true → Wired (block_of old k) (part_of (onward_of live old onward) k) 8
  part_wired small k e =
      let area = onward_of live old onward in
      let long = onward_length in
      let space : 64 * k + 64 ≤ length onward = room.space k e in
      let lane : k < 64 = split_lt k 64 (λ l. l) (λ l. absurd (true≢false (sym e ∙ has_beyond live 64 k small l))) in
      let rest = length-drop (64 * k) area in
      record {
        long = length-take-le 64 (drop (64 * k) area) (omega arith);
        word = λ p r h l.
            get_or-take 64 (drop (64 * k) area) (8 * p + r) 0 (omega arith) ∙ get_or-drop (64 * k) area (8 * p + r) 0
            ∙ all_readied.word k (8 * p + r) lane e (omega arith) ∙ (all_wired (block_of old k)).word p r h l;
      }

-- ---- the cells of planes

module _ (n : ℕ) (old : List ℕ) (whole : length old ≡ 8 * n) where
  pub cell_set : (i x : ℕ) → i < n → x < 64 → cell 64 (sets_of old) i x ≡ set_at (block_of old i) x
  cell_set i x hi hx =
      let place : i * 64 + x ≡ 64 * i + x = omega arith in
      sets_at old (i * 64 + x) (omega arith) ∙ ap (lane old) place ∙ sym (set_block old i x hx)

-- ---- a block, place by place

first_true : (a b : Bool) → a && b ≡ true → a ≡ true
first_true true b e = refl
first_true false b e = e

false_first : (a b : Bool) → a ≡ false → a && b ≡ false
false_first a b e = ap (λ (x : Bool). x && b) e

pub known_one : (m : List ℕ) (b k : ℕ) → known 64 m b k ≡ not (eqb b k) && not (eqb (cell 64 m b k) universal)
unfolding known some
known_one m b k =
    let same : b * 1 + 0 ≡ b = omega arith in ap (λ (i : ℕ). not (eqb i k) && not (eqb (cell 64 m i k) universal)) same

pub chosen_live : {live b ks : ℕ} {w : List ℕ} → Chosen live w b ks → (k : ℕ) → has ks k ≡ true → has live k ≡ true
chosen_live {live} {b} {ks} {w} C k e =
    let lane : k < 64 = split_lt k 64 (λ l. l) (λ l. absurd (true≢false (sym e ∙ has_beyond ks 64 k C.few l))) in
    first_true (has live k) _ (sym (C.bit k lane) ∙ e)

-- what the block is after the places below count
record Narrowed (old : List ℕ) (b ks count : ℕ) (all : List ℕ) : Type 0 where
  long : length all ≡ 8
  least : (r : ℕ) → r < 8 → get_or all r 0 ≤ get_or (block_of old b) r 0
  set : (x : ℕ) → x < 64 → set_at all x ≡ through_live 64 (sets_of old) (has ks) b x count

module _ (n b live ks : ℕ) (old onward : List ℕ) (few : n ≤ 64) (whole : length old ≡ 8 * n) (hb : b < n)
    (small : (i : ℕ) → get_or old i 0 < 2 ^ 64) (low : (k : ℕ) → has live k ≡ true → k < n)
    (wired : (k : ℕ) → has live k ≡ true → Wired (block_of old k) (part_of onward k) 8) (C : Chosen live (block_of old b) b ks) where
  one_narrowed : (k : ℕ) (all : List ℕ) → has ks k ≡ true → Narrowed old b ks k all
      → Narrowed old b ks (suc k) (narrowing (block_of old b) onward all k)
  one_narrowed k all e N =
      let here : k < n = low k (chosen_live C k e) in
      record {
        long = narrowed-length all (spread (block_of old b) k) (part_of onward k);
        least = λ r h. le_trans (narrowed_le all (spread (block_of old b) k) (part_of onward k) r h) (N.least r h);
        set = λ x h.
            set-narrowed all (spread (block_of old b) k) (block_of old k) (part_of onward k) x (wired k (chosen_live C k e))
            ∙ ap₂ intersect (N.set x h)
            (ap₂ compose (set-spread (block_of old b) k x h ∙ sym (cell_set n old whole b k hb (omega arith)))
            (sym (cell_set n old whole k x here h)))
            ∙ sym (live_more 64 (sets_of old) (has ks) b x k e);
      }

  all_narrowed : Narrowed old b ks 64 (block_through (block_of old b) ks onward)
  unfolding block_through
  all_narrowed =
      rw (visited_upto (narrowing (block_of old b) onward) (block_of old b) ks)
      (upto_keeps (narrowing (block_of old b) onward) (Narrowed old b ks) (block_of old b) ks
      (record {
        long = block_length old b;
        least = λ r h. le_refl _;
        set = λ x h. sym (cell_set n old whole b x hb h) ∙ sym (live_none 64 (sets_of old) (has ks) b x);
      })
      one_narrowed
      (λ k all e N. record {
        long = N.long;
        least = N.least;
        set = λ x h. N.set x h ∙ sym (live_skip 64 (sets_of old) (has ks) b x k e);
      }) 64)

  -- the chosen places are those that the round goes through
  pub chosen_new : (x : ℕ) → x < 64
      → through_live 64 (sets_of old) (has ks) b x 64 ≡ new_set 64 n live (sets_of old) (64 * b + x)
  unfolding new_set
  chosen_new x h =
      let at : (64 * b + x) / 64 ≡ b = omega arith in
      let lane : column 64 (64 * b + x) ≡ x = omega arith in
      live_skip_to 64 (sets_of old) (has ks) b x n 64 few
      (λ k p q. C.bit k q ∙ false_first (has live k) _ (by_test (has live k) (λ t. absurd (omega (arith, low k t))) (λ f. f)))
      ∙ live_same 64 64 (sets_of old) (sets_of old) (has ks) (λ k. has live k && known 64 (sets_of old) b k) b x n refl
      (λ k l.
      C.bit k (omega arith)
      ∙ ap (λ (c : Bool). has live k && c)
      (ap (λ (s : ℕ). not (eqb b k) && not (eqb s universal)) (sym (cell_set n old whole b k hb (omega arith))) ∙ sym (known_one (sets_of old) b k)))
      (λ k l. refl) (λ k l. refl)
      ∙ sym (ap₂ (λ (i j : ℕ). through_live 64 (sets_of old) (λ k. has live k && known 64 (sets_of old) i k) i j n) at lane)

  pub block_made : block_through (block_of old b) ks onward ≡ lanes_of (λ x. new_set 64 n live (sets_of old) (64 * b + x))
  block_made =
      words_are (block_through (block_of old b) ks onward) (λ x. new_set 64 n live (sets_of old) (64 * b + x)) all_narrowed.long
      (λ r h. lt_of_le_of_lt (all_narrowed.least r h) (subst (λ (v : ℕ). v < 2 ^ 64) (sym (block_word old b r h)) (small (8 * b + r))))
      (λ x h. all_narrowed.set x h ∙ chosen_new x h)
