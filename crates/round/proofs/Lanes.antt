-- The set of a lane, of the words that the functions on blocks make; the lanes with a member, with all of them, and those that differ.
use Prim.Native.Nat.{ℕ, zero, suc, ◌+◌, ◌*◌, ◌^◌, ◌<◌, ◌≤◌}
use mathlib.Core.Path.{◌≡◌, refl, sym, ap, ap₂, ◌∙◌, subst}
use mathlib.Core.Bool.{Bool, true, false, cond, not, ◌&&◌, beq, and-true}
use mathlib.Core.List.{List}
use native.Mathlib.Nat.{lt_of_le_of_lt, le_refl, le_trans, le-suc}
use lib.Bits.{bit_and, bit_or, bit_xor, and_le_l}
use lib.Dec.{T, eqb, eqb→eq, eqb_refl, T_not, not_T, lit<}
use lib.ListN.{length, get_or}
use Rattle.std.specs.List.{fold}
use Rattle.lists.specs.Tabled.{tabled}
use Rattle.lists.proofs.Splits.{split_lt}
use Rattle.relation.specs.Sets.{has, empty, universal, intersect, union_of, over}
use Rattle.relation.specs.Composition.{table, compose}
use Rattle.relation.proofs.Tests.{same, from_both, all, all_at}
use Rattle.relation.proofs.Member.{ext, has-intersect, ext_byte, some_member, empty_has_none}
use Rattle.lanes.specs.Lists.{list_of, some}
use Rattle.lanes.specs.Words.{set_at}
use Rattle.lanes.proofs.Lists.{list_at, list_length, list_of_words}
use Rattle.lanes.proofs.Unions.{some_same, some-place, place-some, has_union, has_cond}
use Rattle.lanes.proofs.Sets.{has-set, set-byte, set_is, has-over, has_wired}
use Rattle.lanes.proofs.Shifts.{has_beyond}
use Rattle.lanes.proofs.Digits.{has_xor, all_ones}
use Rattle.round.specs.Inner.{lanes_with_member, lanes_with_all, lanes_that_differ, spread, narrowed, Wired}

-- ---- a set narrowed by a composition

pub set-narrowed : (all a b onward : List ℕ) (x : ℕ) → Wired b onward 8
    → set_at (narrowed all a onward) x ≡ intersect (set_at all x) (compose (set_at a x) (set_at b x))
unfolding narrowed compose
set-narrowed all a b onward x o =
    set_is (narrowed all a onward) x (intersect (set_at all x) (compose (set_at a x) (set_at b x)))
    (lt_of_le_of_lt (and_le_l (set_at all x) (compose (set_at a x) (set_at b x))) (set-byte all x))
    (λ r l.
    ap (λ (w : ℕ). has w x) (list_at 8 _ r l)
    ∙ has-intersect (get_or all r 0) (union_of 8 (λ p. intersect (get_or a p 0) (get_or onward (8 * p + r) 0))) x
    ∙ ap₂ ◌&&◌ (sym (has-set all x r l))
    (has_union 8 (λ p. intersect (get_or a p 0) (get_or onward (8 * p + r) 0)) x
    ∙ some_same 8 _ _ (λ p h. has-intersect (get_or a p 0) (get_or onward (8 * p + r) 0) x
    ∙ ap (λ (b : Bool). has (get_or a p 0) x && b) (ap (λ (w : ℕ). has w x) (o.word p r h l) ∙ has_wired p b x r l))
    ∙ sym (has-over a x (λ p. over (set_at b x) (λ q. table p q)) r))
    ∙ sym (has-intersect (set_at all x) (compose (set_at a x) (set_at b x)) r))

-- narrowing makes no word larger
pub narrowed-length : (all a onward : List ℕ) → length (narrowed all a onward) ≡ 8
unfolding narrowed
narrowed-length all a onward = list_length 8 _

pub narrowed_le : (all a onward : List ℕ) (r : ℕ) → r < 8 → get_or (narrowed all a onward) r 0 ≤ get_or all r 0
unfolding narrowed
narrowed_le all a onward r h =
    let word = union_of 8 (λ p. intersect (get_or a p 0) (get_or onward (8 * p + r) 0)) in
    subst (λ (x : ℕ). x ≤ get_or all r 0)
    (sym (list_at 8 (λ r. intersect (get_or all r 0) (union_of 8 (λ p. intersect (get_or a p 0) (get_or onward (8 * p + r) 0)))) r h))
    (and_le_l (get_or all r 0) word)

-- ---- one lane's set in every lane

pub set-spread : (w : List ℕ) (k x : ℕ) → x < 64 → set_at (spread w k) x ≡ set_at w k
unfolding spread
set-spread w k x h =
    set_is (spread w k) x (set_at w k) (set-byte w k) (λ r l.
    ap (λ (a : ℕ). has a x) (list_at 8 (λ r. cond (has (get_or w r 0) k) 18446744073709551615 empty) r l)
    ∙ has_cond (has (get_or w r 0) k) 18446744073709551615 x
    ∙ ap (λ (b : Bool). has (get_or w r 0) k && b) (all_ones x h)
    ∙ and-true (has (get_or w r 0) k)
    ∙ sym (has-set w k r l))

-- ---- lanes with a member, with all members

-- eight words, taken together one after the other
pub members_fold : (w : List ℕ) → length w ≡ 8 → fold bit_or 0 w ≡ lanes_with_member w
unfolding tabled
members_fold w long = subst (λ (v : List ℕ). fold bit_or 0 v ≡ lanes_with_member w) (list_of_words 8 w long) refl

pub all_fold : (w : List ℕ) → length w ≡ 8 → get_or w 0 0 < 2 ^ 64 → fold (λ all word. bit_and word all) 18446744073709551615 w ≡ lanes_with_all w
unfolding tabled
all_fold w long small =
    subst (λ (v : List ℕ). fold (λ all word. bit_and word all) 18446744073709551615 v ≡ lanes_with_all w) (list_of_words 8 w long)
    (ap (λ (x : ℕ). from_first x) (within_ones (get_or w 0 0) small))
  where
    from_first : ℕ → ℕ
    from_first x =
        bit_and (get_or w 7 0) (bit_and (get_or w 6 0) (bit_and (get_or w 5 0) (bit_and (get_or w 4 0)
        (bit_and (get_or w 3 0) (bit_and (get_or w 2 0) (bit_and (get_or w 1 0) x))))))

    within_ones : (x : ℕ) → x < 2 ^ 64 → bit_and x 18446744073709551615 ≡ x
    within_ones x h =
        ext (bit_and x 18446744073709551615) x (λ k. has-intersect x 18446744073709551615 k ∙ go k)
      where
        go : (k : ℕ) → has x k && has 18446744073709551615 k ≡ has x k
        go k = split_lt k 64
            (λ l. ap (λ (b : Bool). has x k && b) (all_ones k l) ∙ and-true (has x k))
            (λ l. ap (λ (b : Bool). b && has 18446744073709551615 k) (has_beyond x 64 k h l) ∙ sym (has_beyond x 64 k h l))

-- the words that differ, taken together
pub differ_members : (a b : List ℕ) → lanes_with_member (list_of 8 (λ r. bit_xor (get_or a r 0) (get_or b r 0))) ≡ lanes_that_differ a b
unfolding tabled
differ_members a b = refl

-- the set of lane x is not empty
pub has_members : (w : List ℕ) (x : ℕ) → has (lanes_with_member w) x ≡ not (eqb (set_at w x) empty)
unfolding union_of
has_members w x =
    has_union 8 (λ r. get_or w r 0) x
    ∙ same (some 8 (λ r. has (get_or w r 0) x)) (not (eqb (set_at w x) empty))
    (λ t.
    let m = some-place 8 (λ r. has (get_or w r 0) x) t in
    not_T (eqb (set_at w x) empty) (λ e.
    empty_has_none m.0
    (subst (λ (s : ℕ). T (has s m.0)) (eqb→eq (set_at w x) empty e) (subst T (sym (has-set w x m.0 m.1)) m.2))))
    (λ t.
    let m = some_member 8 (set_at w x) (set-byte w x) (λ e. T_not (eqb (set_at w x) empty) t (subst (λ (s : ℕ). T (eqb s empty)) (sym e) (eqb_refl empty))) in
    place-some 8 (λ r. has (get_or w r 0) x) m.0 m.1 (subst T (has-set w x m.0 m.1) m.2))

universal_all : (r : ℕ) → r < 8 → T (has universal r)
unfolding all has
universal_all r h = all_at 8 (has universal) tt r h

in_all : (w : List ℕ) (x : ℕ) → has (lanes_with_all w) x ≡ all 8 (λ r. has (get_or w r 0) x)
unfolding all
in_all w x =
    meets 7 _ (meets 6 _ (meets 5 _ (meets 4 _ (meets 3 _ (meets 2 _ (meets 1 _ (sym (and-true (has (get_or w 0 0) x)))))))))
  where
    meets : (r y : ℕ) {b : Bool} → has y x ≡ b → has (intersect (get_or w r 0) y) x ≡ has (get_or w r 0) x && b
    meets r y e = has-intersect (get_or w r 0) y x ∙ ap (λ (c : Bool). has (get_or w r 0) x && c) e

at_all : (n : ℕ) (f : ℕ → Bool) → ((k : ℕ) → k < n → T (f k)) → T (all n f)
unfolding all
at_all zero f h = tt
at_all (suc n) f h = from_both (f n) (all n f) (h n (le_refl (suc n))) (at_all n f (λ k l. h k (le_trans l (le-suc n))))

-- the set of lane x is the universal one
pub has_all : (w : List ℕ) (x : ℕ) → has (lanes_with_all w) x ≡ eqb (set_at w x) universal
has_all w x =
    in_all w x
    ∙ same (all 8 (λ r. has (get_or w r 0) x)) (eqb (set_at w x) universal)
    (λ t.
    subst (λ (s : ℕ). T (eqb s universal))
    (ext_byte universal (set_at w x) (lit< tt) (set-byte w x) (λ r l.
    same (has universal r) (has (set_at w x) r)
    (λ u. subst T (sym (has-set w x r l)) (all_at 8 (λ r. has (get_or w r 0) x) t r l)) (λ u. universal_all r l)))
    (eqb_refl universal))
    (λ t.
    at_all 8 (λ r. has (get_or w r 0) x) (λ r l.
    subst T (ap (λ (s : ℕ). has s r) (sym (eqb→eq (set_at w x) universal t)) ∙ has-set w x r l) (universal_all r l)))

-- ---- lanes whose sets differ

apart : (a b : Bool) → T (not (beq a b)) → a ≡ b → ⊥
apart a b t e = go a (subst (λ (c : Bool). T (not (beq a c))) (sym e) t)
  where
    go : (a : Bool) → T (not (beq a a)) → ⊥
    go true t = t
    go false t = t

alike : (a b : Bool) → (T (not (beq a b)) → ⊥) → a ≡ b
alike true true h = refl
alike true false h = absurd (h tt)
alike false true h = absurd (h tt)
alike false false h = refl

settle : (s : Bool) → ((T s → ⊥) → ⊥) → T s
settle true f = tt
settle false f = f (λ t. t)

pub has_differing : (a b : List ℕ) (x : ℕ) → has (lanes_that_differ a b) x ≡ not (eqb (set_at a x) (set_at b x))
unfolding union_of
has_differing a b x =
    has_union 8 word x
    ∙ same (some 8 (λ r. has (word r) x)) (not (eqb (set_at a x) (set_at b x)))
    (λ t.
    let m = some-place 8 (λ r. has (word r) x) t in
    let r = m.0 in
    not_T (eqb (set_at a x) (set_at b x)) (λ e.
    apart (has (get_or a r 0) x) (has (get_or b r 0) x) (subst T (has_xor (get_or a r 0) (get_or b r 0) x) m.2)
    (sym (has-set a x r m.1) ∙ ap (λ (s : ℕ). has s r) (eqb→eq (set_at a x) (set_at b x) e) ∙ has-set b x r m.1)))
    (λ t.
    settle (some 8 (λ r. has (word r) x)) (λ n.
    T_not (eqb (set_at a x) (set_at b x)) t
    (subst (λ (s : ℕ). T (eqb (set_at a x) s))
    (ext_byte (set_at a x) (set_at b x) (set-byte a x) (set-byte b x) (λ r l.
    has-set a x r l
    ∙ alike (has (get_or a r 0) x) (has (get_or b r 0) x)
    (λ u. n (place-some 8 (λ r. has (word r) x) r l (subst T (sym (has_xor (get_or a r 0) (get_or b r 0) x)) u)))
    ∙ sym (has-set b x r l)))
    (eqb_refl (set_at a x)))))
  where
    word : ℕ → ℕ
    word r = bit_xor (get_or a r 0) (get_or b r 0)
