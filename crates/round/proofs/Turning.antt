-- The loop that makes the blocks of a round: its invariant, a turn of it, and both of its ends.
use Prim.Native.Nat.{ℕ, ◌+◌, ◌*◌, ◌-◌, ◌/◌, ◌%◌, ◌^◌, ◌<◌, ◌≤◌}
use mathlib.Core.Path.{◌≡◌, refl, sym, ap, ap₂, ◌∙◌, subst}
use mathlib.Core.Bool.{Bool, true, false, cond, not, ◌||◌}
use mathlib.Core.List.{List, ◌++◌, append-nil}
use native.Mathlib.Decide.{dec_lt}
use native.Mathlib.Nat.{le_refl}
use native.Mathlib.Numerals.{add-one}
use native.Mathlib.Omega.{arith}
use borrow.Author.Tests.{lt-ltb, le-ltb}
use lib.Bits.{bit_or, or_lt}
use lib.Dec.{eqb, ltb}
use lib.ListN.{length, get_or, drop_of_length-le}
use lib.Seq.{take_all}
use Rattle.lists.specs.Least.{least}
use Rattle.lists.proofs.Splits.{split_lt}
use Rattle.lists.proofs.LeastLaws.{least-is, least-here, least_gone}
use Rattle.relation.specs.Sets.{has}
use Rattle.relation.proofs.Member.{ext, has-unite}
use Rattle.matrix.specs.Cells.{cell, first_empty}
use Rattle.lists.specs.Laid.{laid}
use Rattle.lists.proofs.LaidLaws.{laid_none, laid_all, length-laid}
use Rattle.lanes.specs.Lists.{mask_of, some}
use Rattle.lanes.specs.Words.{set_at}
use Rattle.lanes.proofs.Unions.{empty-has}
use Rattle.lanes.proofs.Sets.{has_mask, mask_below}
use Rattle.lanes.proofs.Shifts.{has_beyond}
use Rattle.std.proofs.Common.{Result, Ok, Err}
use Rattle.round.specs.declared.rounds.Emptied.{Emptied}
use Rattle.planes.specs.Planes.{sets_of}
use Rattle.round.specs.Round.{empty_lane, new_set, round_planes, changed_columns}
use Rattle.planes.specs.Planes.{block_of}
use Rattle.round.specs.Calls.{came_of, round_leaves}
use Rattle.round.specs.Inner.{lanes_that_differ, block_through, Chosen, Room, Ready, Wiring, Blocks}
use Rattle.planes.specs.Calls.{stored}
use Rattle.planes.proofs.Laying.{block_put}
use Rattle.round.proofs.Lanes.{has_differing}
use Rattle.planes.proofs.Blocks.{set_block, sets_at, length-sets, length_planes, block_planes}
use Rattle.round.proofs.Rounding.{chosen_live, cell_set, block_made}

-- the sets that the round makes
abbrev pub new_sets : ℕ → ℕ → List ℕ → List ℕ
new_sets n live old = sets_of (round_planes n live old)

-- row i has another set at k than before
abbrev pub differs : ℕ → ℕ → List ℕ → ℕ → ℕ → Bool
differs n live old k i = not (eqb (cell 64 (new_sets n live old) i k) (cell 64 (sets_of old) i k))

pub record Turning (n live : ℕ) (old before new : List ℕ) (changed b : ℕ) : Type 0 where
  pub within : b ≤ n
  pub long : length new ≡ length before
  pub so_far : new ≡ laid (8 * b) (round_planes n live old) before
  pub none : (p : ℕ) → p < 64 * b → eqb (get_or (new_sets n live old) p 0) 0 ≡ false
  pub bits : (k : ℕ) → k < 64 → has changed k ≡ some b (differs n live old k)
  pub few : changed < 2 ^ 64

pub turning_starts : (n live : ℕ) (old before : List ℕ) → Turning n live old before before 0 0
unfolding some
turning_starts n live old before = record {
  within = omega arith;
  long = refl;
  so_far = laid_none (round_planes n live old) before;
  none = λ p h. absurd (omega arith);
  bits = λ k h. empty-has k;
  few = omega arith;
}

-- an area that is shorter is filled whole
pub laid_past : (p : ℕ) (filled area : List ℕ) → length filled ≤ p → length area ≤ p → laid p filled area ≡ filled
unfolding laid
laid_past p filled area f a = ap₂ ◌++◌ (take_all p filled f) (drop_of_length-le area a) ∙ append-nil filled

-- the answer where lane p is the first with an empty set
abbrev pub emptied_at : ℕ → Result ℕ Emptied
emptied_at p = Err (record { row = p / 64; column = p % 64 })

module _ (n live : ℕ) (old before : List ℕ) (few : n ≤ 64) (whole : length old ≡ 8 * n) (same : length before ≡ 8 * n) where
  made-length : length (round_planes n live old) ≡ 8 * n
  made-length = length_planes n (new_set 64 n live (sets_of old))

  new_length : length (new_sets n live old) ≡ 64 * n
  new_length =
      let l = length-sets (round_planes n live old) in
      let m = made-length in
      omega arith

  module _ (new all : List ℕ) (changed b : ℕ) (hb : b < n) (T : Turning n live old before new changed b)
      (made : all ≡ block_of (round_planes n live old) b) where
    -- the sets of the block, by place and by cell
    at_place : (x : ℕ) → x < 64 → set_at all x ≡ get_or (new_sets n live old) (64 * b + x) 0
    at_place x h =
        let m = made-length in
        ap (λ (w : List ℕ). set_at w x) made ∙ set_block (round_planes n live old) b x h
        ∙ sym (sets_at (round_planes n live old) (64 * b + x) (omega arith))

    at_cell : (x : ℕ) → x < 64 → set_at all x ≡ cell 64 (new_sets n live old) b x
    at_cell x h =
        let place : 64 * b + x ≡ b * 64 + x = omega arith in
        at_place x h ∙ ap (λ (p : ℕ). get_or (new_sets n live old) p 0) place

    next : stored new b all ≡ laid (8 * (b + 1)) (round_planes n live old) before
    next =
        let m = made-length in
        block_put (round_planes n live old) before new all b (omega arith) (omega arith) (omega (arith, T.long)) made T.so_far

    -- no set before lane x of the block is empty
    none_before : (x : ℕ) → x ≤ 64 → ((y : ℕ) → y < x → eqb (set_at all y) 0 ≡ false)
        → (p : ℕ) → p < 64 * b + x → eqb (get_or (new_sets n live old) p 0) 0 ≡ false
    none_before x hx f p h =
        split_lt p (64 * b) (λ l. T.none p l)
        (λ l.
        let place : 64 * b + (p - 64 * b) ≡ p = omega arith in
        ap (λ (q : ℕ). eqb (get_or (new_sets n live old) q 0) 0) (sym place)
        ∙ ap (λ (s : ℕ). eqb s 0) (sym (at_place (p - 64 * b) (omega arith))) ∙ f (p - 64 * b) (omega arith))

    -- the end at the first empty set
    pub turning_stops : (x : ℕ) → x < 64 → x ≡ least 64 (λ y. eqb (set_at all y) 0)
        → Blocks n live old before (stored new b all) (Err (record { row = b; column = x }))
    unfolding came_of round_leaves first_empty
    turning_stops x hx e =
        let test : ℕ → Bool = λ y. eqb (set_at all y) 0 in
        let L = least-is 64 test in
        let size = new_length in
        let inside : 64 * b + x < length (new_sets n live old) = omega arith in
        let place : 64 * b + x ≡ empty_lane (new_sets n live old) =
        least-here (length (new_sets n live old)) (λ p. eqb (get_or (new_sets n live old) p 0) 0) (64 * b + x) inside
        (none_before x (omega arith) (λ y l. L.before y (subst (λ (z : ℕ). y < z) e l)))
        (ap (λ (s : ℕ). eqb s 0) (sym (at_place x hx)) ∙ ap test e ∙ L.found (subst (λ (z : ℕ). z < 64) e hx)) in
        let at : (64 * b + x) / 64 ≡ b = omega arith in
        let in_row : (64 * b + x) % 64 ≡ x = omega arith in
        let columns : Result ℕ Emptied = Ok (changed_columns 64 (new_sets n live old) (sets_of old)) in
        record {
          came = ap₂ (λ (i j : ℕ). the_error i j) (sym at) (sym in_row)
              ∙ ap (λ (t : Bool). cond t (emptied_at (64 * b + x)) columns) (sym (lt-ltb (64 * b + x) (length (new_sets n live old)) inside))
              ∙ ap (λ (p : ℕ). cond (ltb p (length (new_sets n live old))) (emptied_at p) columns) place;
          in_new = next ∙ ap (λ (p : ℕ). laid (8 * (p + 1)) (round_planes n live old) before) (sym at ∙ ap (λ (p : ℕ). p / 64) place);
        }
      where
        the_error : ℕ → ℕ → Result ℕ Emptied
        the_error i j = Err (record { row = i; column = j })

    -- a block without one
    pub turning_goes : (difference : ℕ) → 64 ≤ least 64 (λ y. eqb (set_at all y) 0) → difference < 2 ^ 64
        → difference ≡ lanes_that_differ all (block_of old b)
        → Turning n live old before (stored new b all) (bit_or changed difference) (b + 1)
    unfolding some
    turning_goes difference hx hd d =
        let L = least-is 64 (λ y. eqb (set_at all y) 0) in
        let m = made-length in
        let l = length-laid (8 * (b + 1)) (round_planes n live old) before (omega arith) (omega arith) in
        let shift : 64 * (b + 1) ≡ 64 * b + 64 = omega arith in
        record {
          within = omega arith;
          long = ap length next ∙ l;
          so_far = next;
          none = λ p h. none_before 64 (le_refl 64) (λ y u. L.before y (omega arith)) p (omega arith);
          bits = λ k h.
              has-unite changed difference k
              ∙ ap₂ ◌||◌ (T.bits k h)
              (ap (λ (v : ℕ). has v k) d ∙ has_differing all (block_of old b) k
              ∙ ap₂ (λ (s t : ℕ). not (eqb s t)) (at_cell k h) (sym (cell_set n old whole b k hb h)))
              ∙ ap (λ (c : ℕ). some c (differs n live old k)) (sym (add-one b));
          few = or_lt 64 changed difference T.few hd;
        }

  -- the end past the last block
  pub turning_ends : (new : List ℕ) (changed b : ℕ) → n ≤ b → Turning n live old before new changed b
      → Blocks n live old before new (Ok changed)
  unfolding came_of round_leaves first_empty changed_columns
  turning_ends new changed b h T =
      let all : b ≡ n = omega (arith, T.within) in
      let size = new_length in
      let m = made-length in
      let sets = length-sets old in
      let place : 64 * n ≡ empty_lane (new_sets n live old) =
      least_gone (length (new_sets n live old)) (λ p. eqb (get_or (new_sets n live old) p 0) 0) (64 * n) (sym size)
      (λ k l. T.none k (omega arith)) in
      let at : (64 * n) / 64 ≡ n = omega arith in
      let rows : length (sets_of old) / 64 ≡ n = omega arith in
      record {
        came = ap (λ (c : ℕ). columns c) (all_columns rows all)
            ∙ ap (λ (t : Bool). cond t (emptied_at (64 * n)) (columns (changed_columns 64 (new_sets n live old) (sets_of old))))
            (sym (le-ltb (64 * n) (length (new_sets n live old)) (omega arith)))
            ∙ ap (λ (p : ℕ). cond (ltb p (length (new_sets n live old))) (emptied_at p) (columns (changed_columns 64 (new_sets n live old) (sets_of old)))) place;
        in_new =
            T.so_far ∙ ap (λ (c : ℕ). laid (8 * c) (round_planes n live old) before) all
            ∙ laid_all (8 * n) (round_planes n live old) before m same
            ∙ sym (laid_past (8 * (empty_lane (new_sets n live old) / 64 + 1)) (round_planes n live old) before (omega (arith, sym at ∙ ap (λ (p : ℕ). p / 64) place)) (omega (arith, sym at ∙ ap (λ (p : ℕ). p / 64) place)));
      }
    where
      columns : ℕ → Result ℕ Emptied
      columns c = Ok c

      all_columns : length (sets_of old) / 64 ≡ n → b ≡ n → changed ≡ changed_columns 64 (new_sets n live old) (sets_of old)
      all_columns rows all =
          ext changed (mask_of 64 (λ k. some (length (sets_of old) / 64) (differs n live old k))) (λ k. go k (dec_lt k 64))
        where
          go : (k : ℕ) → Dec (k < 64)
              → has changed k ≡ has (mask_of 64 (λ k. some (length (sets_of old) / 64) (differs n live old k))) k
          go k (yes l) =
              T.bits k l ∙ ap (λ (c : ℕ). some c (differs n live old k)) (all ∙ sym rows)
              ∙ sym (has_mask 64 (λ k. some (length (sets_of old) / 64) (differs n live old k)) k l)
          go k (no l) =
              has_beyond changed 64 k T.few (omega arith)
              ∙ sym (has_beyond (mask_of 64 (λ k. some (length (sets_of old) / 64) (differs n live old k))) 64 k
              (mask_below 64 (λ k. some (length (sets_of old) / 64) (differs n live old k)) 64 (le_refl 64)) (omega arith))

-- ---- the block that a turn makes

pub turned_block : (n live b ks : ℕ) (old onward w all : List ℕ) (new area : ℕ) → Ready n live (length old) new area → Wiring live old onward
    → ((i : ℕ) → get_or old i 0 < 2 ^ 64) → b < n → w ≡ block_of old b → Chosen live w b ks → all ≡ block_through w ks onward
    → all ≡ block_of (round_planes n live old) b
turned_block n live b ks old onward w all new area R W small hb e C m =
    m ∙ ap (λ (x : List ℕ). block_through x ks onward) e
    ∙ block_made n b live ks old onward R.few R.whole hb small R.low W.wired (subst (λ (x : List ℕ). Chosen live x b ks) e C)
    ∙ sym (block_planes n (new_set 64 n live (sets_of old)) b hb)

-- there is room for the chosen regions
pub chosen-room : (n live old new onward b ks : ℕ) (w : List ℕ) → Ready n live old new onward → Chosen live w b ks → Room ks 512 onward
chosen-room n live old new onward b ks w R C = record {
  row = λ k e. let l = here k e in let f = R.few in omega arith;
  space = λ k e. let l = here k e in let f = R.space in omega arith;
}
  where
    here : (k : ℕ) → has ks k ≡ true → k < n
    here k e = R.low k (chosen_live C k e)
