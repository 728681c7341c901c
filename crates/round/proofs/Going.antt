-- Loops that go through the regions of a mask, lowest first: which places come, what a turn of each loop makes, and the mask itself.
use Prim.Native.Nat.{ℕ, zero, suc, ◌+◌, ◌*◌, ◌-◌, ◌%◌, ◌^◌, ◌<◌, ◌≤◌}
use mathlib.Core.Path.{◌≡◌, refl, sym, ap, ap₂, ◌∙◌, subst}
use mathlib.Core.Bool.{Bool, true, false, cond, not, ◌&&◌, and_assoc, and_comm}
use mathlib.Core.List.{List, [], ◌∷◌, ◌++◌}
use native.Mathlib.Nat.{le_refl, lt_of_le_of_lt, mod-eq_of_lt, one-mul}
use native.Mathlib.Omega.{arith}
use lib.Bits.{bit_and, and_le_l}
use lib.Dec.{T, eqb, eqb→eq, eqb_refl}
use lib.ListN.{take, drop}
use lib.Pow.{pow-lt}
use lib.Seq.{paste}
use borrow.Rule.Slice.PartMut.{put_mid}
use Rattle.lists.specs.Least.{least}
use Rattle.lists.proofs.Splits.{split_eq, by_test}
use Rattle.lists.proofs.LeastLaws.{least-here, least_gone}
use Rattle.relation.specs.Sets.{has, empty, universal}
use Rattle.relation.proofs.Member.{has-intersect, has-only}
use Rattle.relation.proofs.Tests.{same}
use Rattle.lanes.specs.Words.{set_at}
use Rattle.lanes.specs.Places.{lowest_of, places, places_below, in_turn, visited}
use Rattle.lanes.proofs.Unions.{empty-has}
use Rattle.lanes.proofs.Digits.{has_other}
use Rattle.lanes.proofs.LowestBit.{lowest_facts, none_lowest}
use Rattle.planes.specs.Planes.{block_of}
use Rattle.round.specs.Onward.{wired_all}
use Rattle.round.specs.Inner.{lanes_with_member, lanes_with_all, spread, narrowed, Room, part_of, Chosen}
use Rattle.planes.proofs.Laying.{put_back}
use Rattle.round.proofs.Wires.{all_wired}
use Rattle.round.proofs.Lanes.{has_members, has_all}

-- ---- the places that a loop goes through

-- each of them is one of the word's
pub Among : ℕ → List ℕ → Type 0
Among m [] = Unit {0}
Among m (k ∷ ks) = (k < 64) × (has m k ≡ true) × Among m ks

among_append : (m : ℕ) (xs ys : List ℕ) → Among m xs → Among m ys → Among m (xs ++ ys)
unfolding Among
among_append m [] ys p q = q
among_append m (x ∷ xs) ys p q = (p.0, p.1, among_append m xs ys p.2 q)

among_below : (m n : ℕ) → n ≤ 64 → Among m (places_below n m)
unfolding places_below Among
among_below m zero h = tt
among_below m (suc n) h =
    among_append m (places_below n m) (cond (has m n) (n ∷ []) []) (among_below m n (omega arith)) (by_test (has m n) here none)
  where
    here : has m n ≡ true → Among m (cond (has m n) (n ∷ []) [])
    here e = rw e (h, e, tt)

    none : has m n ≡ false → Among m (cond (has m n) (n ∷ []) [])
    none e = rw e tt

pub among_start : (m : ℕ) (left : List ℕ) → left ≡ places m → Among m left
unfolding places
among_start m left e = subst (Among m) (sym e) (among_below m 64 (le_refl 64))

pub among_next : (m k : ℕ) (left rest : List ℕ) → left ≡ k ∷ rest → Among m left → (k < 64) × (has m k ≡ true) × Among m rest
unfolding Among
among_next m k left rest e a = subst (Among m) e a

-- a region among those that there is room for
pub record AtPlace (planes onward k : ℕ) : Type 0 where
  pub lane : k < 64
  pub row : 8 * k + 8 ≤ planes
  pub space : 64 * k + 64 ≤ onward

pub at_place : {live planes onward k : ℕ} {left rest : List ℕ} → Room live planes onward → Among live left → left ≡ k ∷ rest → AtPlace planes onward k
at_place {live} {planes} {onward} {k} {left} {rest} room a e =
    let here = among_next live k left rest e a in record { lane = here.0; row = room.row k here.1; space = room.space k here.1 }

-- ---- one turn, and the end

module _ (step : List ℕ → ℕ → List ℕ) where
  pub turn_starts : (a : List ℕ) (m : ℕ) (left : List ℕ) → left ≡ places m → in_turn step a left ≡ visited step a m
  unfolding visited
  turn_starts a m left e = ap (in_turn step a) e

  pub turn_goes : (a next : List ℕ) (k : ℕ) (left rest : List ℕ) → left ≡ k ∷ rest → next ≡ step a k → in_turn step next rest ≡ in_turn step a left
  unfolding in_turn
  turn_goes a next k left rest e q = ap (λ (x : List ℕ). in_turn step x rest) q ∙ ap (in_turn step a) (sym e)

  pub turn_ends : (a left : List ℕ) → left ≡ [] → a ≡ in_turn step a left
  unfolding in_turn
  turn_ends a left e = sym (ap (in_turn step a) e)

abbrev pub narrowing : List ℕ → List ℕ → List ℕ → ℕ → List ℕ
narrowing w onward all k = narrowed all (spread w k) (part_of onward k)

pub through_one : (w onward all next column : List ℕ) (k count : ℕ) → column ≡ spread w k → count ≡ 64
    → next ≡ narrowed all column (take count (drop (64 * k) onward)) → next ≡ narrowing w onward all k
through_one w onward all next column k count s m n =
    n ∙ ap₂ (λ (a : List ℕ) (c : ℕ). narrowed all a (take c (drop (64 * k) onward))) s m

abbrev pub readying : List ℕ → List ℕ → ℕ → List ℕ
readying old area k = paste area (64 * k) (wired_all (block_of old k)) 64

pub onward_one : (old area words b : List ℕ) (k count : ℕ) → b ≡ block_of old k → words ≡ wired_all b → count ≡ 64
    → put_mid (64 * k) count area words ≡ readying old area k
onward_one old area words b k count s w m =
    let made : words ≡ wired_all (block_of old k) = w ∙ ap wired_all s in
    ap (λ (x : List ℕ). put_mid (64 * k) count area x) made
    ∙ put_back area (wired_all (block_of old k)) (64 * k) count 64 m (all_wired (block_of old k)).long

-- ---- the regions that a row goes through

eqb_comm : (a b : ℕ) → eqb a b ≡ eqb b a
eqb_comm a b = same (eqb a b) (eqb b a) (λ t. eq_T b a (sym (eqb→eq a b t))) (λ t. eq_T a b (sym (eqb→eq b a t)))
  where
    eq_T : (x y : ℕ) → x ≡ y → T (eqb x y)
    eq_T x y e = subst (λ (z : ℕ). T (eqb x z)) e (eqb_refl x)

pub chosen_is : (live common b : ℕ) (w : List ℕ) → live < 2 ^ 64 → common < 2 ^ 64 → b < 64 → common ≡ lanes_with_all w
    → Chosen live w b (bit_and (bit_and live (18446744073709551615 - common)) (18446744073709551615 - 1 * 2 ^ b % 2 ^ 64))
chosen_is live common b w hl hc hb e = record {
  few = lt_of_le_of_lt (and_le_l (bit_and live (18446744073709551615 - common)) _) (lt_of_le_of_lt (and_le_l live _) hl);
  bit = λ k l.
      let one : 1 * 2 ^ b % 2 ^ 64 ≡ 2 ^ b = ap (λ (x : ℕ). x % 2 ^ 64) (one-mul (2 ^ b)) ∙ mod-eq_of_lt (pow-lt hb) in
      has-intersect (bit_and live (18446744073709551615 - common)) _ k
      ∙ ap₂ ◌&&◌
      (has-intersect live (18446744073709551615 - common) k
      ∙ ap (λ (c : Bool). has live k && c) (has_other common k hc l ∙ ap not (ap (λ (x : ℕ). has x k) e ∙ has_all w k)))
      (ap (λ (x : ℕ). has (18446744073709551615 - x) k) one ∙ has_other (2 ^ b) k (pow-lt hb) l
      ∙ ap not (has-only b k ∙ eqb_comm k b))
      ∙ and_assoc (has live k) (not (eqb (set_at w k) universal)) (not (eqb b k))
      ∙ ap (λ (c : Bool). has live k && c) (and_comm (not (eqb (set_at w k) universal)) (not (eqb b k)));
}

-- ---- the first empty lane

-- the lowest bit of a word is the least place that passes, where the bits are those that pass
pub lowest_least : (m : ℕ) (test : ℕ → Bool) → m < 2 ^ 64 → ((k : ℕ) → k < 64 → has m k ≡ test k) → lowest_of m ≡ least 64 test
lowest_least m test h e =
    split_eq m 0
    (λ z. ap lowest_of z ∙ none_lowest ∙ least_gone 64 test 64 refl (λ k l. sym (e k l) ∙ ap (λ (x : ℕ). has x k) z ∙ empty-has k))
    (λ n.
    let f = lowest_facts m h (omega arith) in
    least-here 64 test (lowest_of m) f.below (λ k l. sym (e k (omega (arith, f.below))) ∙ f.first k l)
    (sym (e (lowest_of m) f.below) ∙ f.member))

not_not : (b : Bool) → not (not b) ≡ b
not_not true = refl
not_not false = refl

pub empty-least : (w : List ℕ) (members : ℕ) → members < 2 ^ 64 → members ≡ lanes_with_member w
    → lowest_of (18446744073709551615 - members) ≡ least 64 (λ x. eqb (set_at w x) empty)
empty-least w members h e =
    lowest_least (18446744073709551615 - members) (λ x. eqb (set_at w x) empty) (omega arith)
    (λ k l. has_other members k h l ∙ ap not (ap (λ (x : ℕ). has x k) e ∙ has_members w k) ∙ not_not (eqb (set_at w k) empty))
