-- The laws of `over`, the union of the sets f r over the members r of a set: it is monotone, a set of one relation and the sets of one relation
-- are its units, two of them associate and change places, and it distributes over unions. All that is said of converse and composition
-- follows from these.
use Prim.Native.Nat.{ℕ, zero, suc, ◌+◌, ◌<◌}
use mathlib.Core.Path.{◌≡◌, refl, sym, ap, subst}
use mathlib.Core.Logic.{inl, inr, ⊎_elim}
use mathlib.Core.Bool.{Bool, true, false, cond}
use native.Mathlib.Numerals.{add-one}
use native.Mathlib.Nat.{le_refl, le-suc, le_trans}
use lib.Dec.{T, lit<}
use lib.Bits.{or_lt, or_zero_r}
use Rattle.relation.specs.Sets.{has, only, empty, unite, union_of, over}
use Rattle.relation.proofs.Member.{Part, both_ways, over_members, members_over, unite_members, members_unite}
use Rattle.relation.proofs.Member.{only-has, only_has_one, empty_has_none, byte_member, some_member}

pub over_part : (a b : ℕ) (f g : ℕ → ℕ) → Part a b → ((p : ℕ) → p < 8 → Part (f p) (g p)) → Part (over a f) (over b g)
over_part a b f g h k r t =
    let w = over_members a f r t in
    members_over b g r (record {
      relation = w.relation;
      below = w.below;
      member = h w.relation w.member;
      gives = k w.relation w.below r w.gives;
    })

pub over-same : (s : ℕ) (f g : ℕ → ℕ) → ((p : ℕ) → p < 8 → f p ≡ g p) → over s f ≡ over s g
over-same s f g e =
    both_ways (over s f) (over s g)
    (over_part s s f g (λ r t. t) (λ p h r t. subst (λ (x : ℕ). T (has x r)) (e p h) t))
    (over_part s s g f (λ r t. t) (λ p h r t. subst (λ (x : ℕ). T (has x r)) (sym (e p h)) t))

pub over-only : (k : ℕ) (f : ℕ → ℕ) → k < 8 → over (only k) f ≡ f k
over-only k f h =
    both_ways (over (only k) f) (f k)
    (λ r t. let w = over_members (only k) f r t in subst (λ (x : ℕ). T (has (f x) r)) (only_has_one k w.relation w.member) w.gives)
    (λ r t. members_over (only k) f r (record { relation = k; below = h; member = only-has k; gives = t }))

pub over_onlys : (s : ℕ) → s < 256 → over s (λ p. only p) ≡ s
over_onlys s h =
    both_ways (over s (λ p. only p)) s
    (λ r t. let w = over_members s (λ p. only p) r t in subst (λ (x : ℕ). T (has s x)) (sym (only_has_one w.relation r w.gives)) w.member)
    (λ r t. members_over s (λ p. only p) r (record { relation = r; below = byte_member s r h t; member = t; gives = only-has r }))

pub over_empties : (s : ℕ) → over s (λ p. empty) ≡ empty
over_empties s = both_ways (over s (λ p. empty)) empty (λ r t. (over_members s (λ p. empty) r t).gives) (λ r t. absurd (empty_has_none r t))

pub over-empty : (f : ℕ → ℕ) → over empty f ≡ empty
unfolding over union_of has
over-empty f = refl

pub over-over : (s : ℕ) (f g : ℕ → ℕ) → over (over s f) g ≡ over s (λ p. over (f p) g)
over-over s f g =
    both_ways (over (over s f) g) (over s (λ p. over (f p) g))
    (λ r t.
    let w = over_members (over s f) g r t in
    let v = over_members s f w.relation w.member in
    members_over s (λ p. over (f p) g) r (record {
      relation = v.relation;
      below = v.below;
      member = v.member;
      gives = members_over (f v.relation) g r (record { relation = w.relation; below = w.below; member = v.gives; gives = w.gives });
    }))
    (λ r t.
    let w = over_members s (λ p. over (f p) g) r t in
    let v = over_members (f w.relation) g r w.gives in
    members_over (over s f) g r (record {
      relation = v.relation;
      below = v.below;
      gives = v.gives;
      member = members_over s f v.relation (record { relation = w.relation; below = w.below; member = w.member; gives = v.member });
    }))

swapped : (a b : ℕ) (f : ℕ → ℕ → ℕ) → Part (over a (λ p. over b (λ q. f p q))) (over b (λ q. over a (λ p. f p q)))
swapped a b f r t =
    let w = over_members a (λ p. over b (λ q. f p q)) r t in
    let v = over_members b (λ q. f w.relation q) r w.gives in
    members_over b (λ q. over a (λ p. f p q)) r (record {
      relation = v.relation;
      below = v.below;
      member = v.member;
      gives =
          members_over a (λ p. f p v.relation) r (record { relation = w.relation; below = w.below; member = w.member; gives = v.gives });
    })

pub over_swap : (a b : ℕ) (f : ℕ → ℕ → ℕ) → over a (λ p. over b (λ q. f p q)) ≡ over b (λ q. over a (λ p. f p q))
over_swap a b f = both_ways _ _ (swapped a b f) (swapped b a (λ q p. f p q))

-- the union over the members of a union
pub over-unite : (a b : ℕ) (f : ℕ → ℕ) → over (unite a b) f ≡ unite (over a f) (over b f)
over-unite a b f =
    both_ways (over (unite a b) f) (unite (over a f) (over b f))
    (λ r t.
    let w = over_members (unite a b) f r t in
    members_unite (over a f) (over b f) r
    (⊎_elim
    (λ m. inl (members_over a f r (record { relation = w.relation; below = w.below; member = m; gives = w.gives })))
    (λ m. inr (members_over b f r (record { relation = w.relation; below = w.below; member = m; gives = w.gives })))
    (unite_members a b w.relation w.member)))
    (λ r t.
    ⊎_elim
    (over_part a (unite a b) f f (λ k m. members_unite a b k (inl m)) (λ p h k m. m) r)
    (over_part b (unite a b) f f (λ k m. members_unite a b k (inr m)) (λ p h k m. m) r)
    (unite_members (over a f) (over b f) r t))

-- the union of unions
pub over_unites : (s : ℕ) (f g : ℕ → ℕ) → over s (λ p. unite (f p) (g p)) ≡ unite (over s f) (over s g)
over_unites s f g =
    both_ways (over s (λ p. unite (f p) (g p))) (unite (over s f) (over s g))
    (λ r t.
    let w = over_members s (λ p. unite (f p) (g p)) r t in
    members_unite (over s f) (over s g) r
    (⊎_elim
    (λ m. inl (members_over s f r (record { relation = w.relation; below = w.below; member = w.member; gives = m })))
    (λ m. inr (members_over s g r (record { relation = w.relation; below = w.below; member = w.member; gives = m })))
    (unite_members (f w.relation) (g w.relation) r w.gives)))
    (λ r t.
    ⊎_elim
    (over_part s s f (λ p. unite (f p) (g p)) (λ k m. m) (λ p h k m. members_unite (f p) (g p) k (inl m)) r)
    (over_part s s g (λ p. unite (f p) (g p)) (λ k m. m) (λ p h k m. members_unite (f p) (g p) k (inr m)) r)
    (unite_members (over s f) (over s g) r t))

-- one set, over the members of a set that is not empty
pub over_constant : (s c : ℕ) → s < 256 → (s ≡ empty → ⊥) → over s (λ p. c) ≡ c
over_constant s c h n =
    let w = some_member 8 s h n in
    both_ways (over s (λ p. c)) c
    (λ r t. (over_members s (λ p. c) r t).gives)
    (λ r t. members_over s (λ p. c) r (record { relation = w.0; below = w.1; member = w.2; gives = t }))

-- a union of bytes is one
union_byte : (n : ℕ) (f : ℕ → ℕ) → ((p : ℕ) → p < n → f p < 256) → union_of n f < 256
unfolding union_of
union_byte zero f h = lit< tt
union_byte (suc n) f h = or_lt 8 (union_of n f) (f n) (union_byte n f (λ p l. h p (le_trans l (le-suc n)))) (h n (le_refl (suc n)))

pub over-byte : (s : ℕ) (f : ℕ → ℕ) → ((p : ℕ) → p < 8 → f p < 256) → over s f < 256
unfolding over
over-byte s f h = union_byte 8 (λ p. cond (has s p) (f p) empty) (λ p l. kept (has s p) (f p) (h p l))
  where
    kept : (b : Bool) (x : ℕ) → x < 256 → cond b x empty < 256
    kept true x l = l
    kept false x l = lit< tt

-- ---- a loop that goes through the members: the union over those below n, which at 8 is `over s f`

unfoldable pub upto : ℕ → (ℕ → ℕ) → ℕ → ℕ
upto s f n = union_of n (λ r. cond (has s r) (f r) empty)

pub upto_none : (s : ℕ) (f : ℕ → ℕ) → upto s f 0 ≡ empty
unfolding upto union_of
upto_none s f = refl

pub upto_next : (s : ℕ) (f : ℕ → ℕ) (n : ℕ) → upto s f (n + 1) ≡ cond (has s n) (unite (upto s f n) (f n)) (upto s f n)
unfolding upto union_of
upto_next s f n = rw add-one (go (has s n))
  where
    go : (b : Bool) → unite (upto s f n) (cond b (f n) empty) ≡ cond b (unite (upto s f n) (f n)) (upto s f n)
    go true = refl
    go false = or_zero_r _

-- n is a member
pub upto_taken : (s : ℕ) (f : ℕ → ℕ) (n union : ℕ) → union ≡ upto s f n → has s n ≡ true → unite union (f n) ≡ upto s f (n + 1)
unfolding upto union_of
upto_taken s f n union e t = rw (add-one, e, t)

-- n is none
pub upto_left : (s : ℕ) (f : ℕ → ℕ) (n union : ℕ) → union ≡ upto s f n → has s n ≡ false → union ≡ upto s f (n + 1)
unfolding upto union_of
upto_left s f n union e t = rw (add-one, e, t, or_zero_r)

pub upto_all : (s : ℕ) (f : ℕ → ℕ) (n : ℕ) → n ≡ 8 → upto s f n ≡ over s f
unfolding upto over
upto_all s f n e = ap (upto s f) e

-- what such a loop asks: its start, its turn and its end
pub ruleset upto_laws = (upto_none, upto_next, upto_all)
