-- The bits of a union: one of the united numbers has the bit. What is united under a test can be left out.
use Prim.Native.Nat.{ℕ, zero, suc, ◌<◌}
use mathlib.Core.Path.{◌≡◌, refl, sym, ap, ap₂, ◌∙◌, subst}
use mathlib.Core.Logic.{◌⊎◌, inl, inr, ⊎_elim}
use mathlib.Core.Bool.{Bool, true, false, cond, ◌&&◌, ◌||◌}
use mathlib.Core.List.{List, [], ◌∷◌}
use native.Mathlib.Nat.{le_refl, le-suc, le_trans, le_of_suc-le-suc, eq-or-lt_of_le, not-suc-le-zero}
use native.Mathlib.Omega.{arith}
use lib.Bits.{bit_or, or_zero_l, or_zero_r}
use lib.Dec.{T, eqb, eqb→eq, eqb_refl}
use lib.ListN.{length, get_or}
use Rattle.std.specs.List.{fold, zip}
use Rattle.std.proofs.Math.Bool.{or_assoc}
use Rattle.relation.specs.Sets.{has, empty, unite, union_of}
use Rattle.relation.proofs.Tests.{same, both, from_both, either, from_either}
use Rattle.relation.proofs.Member.{ext, has-unite, empty_has_none}
use Rattle.lanes.specs.Lists.{some}

pub some_same : (n : ℕ) (f g : ℕ → Bool) → ((i : ℕ) → i < n → f i ≡ g i) → some n f ≡ some n g
unfolding some
some_same zero f g e = refl
some_same (suc n) f g e = ap₂ ◌||◌ (some_same n f g (λ i h. e i (le_trans h (le-suc n)))) (e n (le_refl (suc n)))

-- a place at which the test passes
pub some-place : (n : ℕ) (f : ℕ → Bool) → T (some n f) → (i : ℕ) × (i < n) × T (f i)
unfolding some
some-place zero f t = absurd t
some-place (suc n) f t = go (some-place n f) (either (some n f) (f n) t)
  where
    go : (T (some n f) → (i : ℕ) × (i < n) × T (f i)) → T (some n f) ⊎ T (f n) → (i : ℕ) × (i < suc n) × T (f i)
    go ih (inl u) = let w = ih u in (w.0, le_trans w.1 (le-suc n), w.2)
    go ih (inr u) = (n, le_refl (suc n), u)

pub place-some : (n : ℕ) (f : ℕ → Bool) (i : ℕ) → i < n → T (f i) → T (some n f)
unfolding some
place-some zero f i h t = absurd (not-suc-le-zero h)
place-some (suc n) f i h t =
    from_either (some n f) (f n)
    (⊎_elim (λ e. inr (subst (λ (x : ℕ). T (f x)) e t)) (λ l. inl (place-some n f i l t)) (eq-or-lt_of_le (le_of_suc-le-suc h)))

-- where the test can pass at k alone, the test at k decides
pub some_one : (n : ℕ) (f : ℕ → Bool) (k : ℕ) → k < n → some n (λ i. f i && eqb k i) ≡ f k
some_one n f k h =
    same (some n (λ i. f i && eqb k i)) (f k)
    (λ t.
    let w = some-place n (λ i. f i && eqb k i) t in
    let m = both (f w.0) (eqb k w.0) w.2 in
    subst (λ (x : ℕ). T (f x)) (sym (eqb→eq k w.0 m.1)) m.0)
    (λ t. place-some n (λ i. f i && eqb k i) k h (from_both (f k) (eqb k k) t (eqb_refl k)))

pub empty-has : (x : ℕ) → has empty x ≡ false
empty-has x = same (has empty x) false (empty_has_none x) (λ t. absurd t)

pub has_union : (n : ℕ) (f : ℕ → ℕ) (x : ℕ) → has (union_of n f) x ≡ some n (λ i. has (f i) x)
unfolding union_of some
has_union zero f x = empty-has x
has_union (suc n) f x = has-unite (union_of n f) (f n) x ∙ ap (λ (b : Bool). b || has (f n) x) (has_union n f x)

pub has_cond : (b : Bool) (a x : ℕ) → has (cond b a empty) x ≡ b && has a x
has_cond true a x = refl
has_cond false a x = empty-has x

-- ---- a union under a test, with what fails it left out

unfoldable pub union_where : ℕ → (ℕ → Bool) → (ℕ → ℕ) → ℕ
union_where zero t f = empty
union_where (suc n) t f = let rest = union_where n t f in cond (t n) (unite rest (f n)) rest

left_out : (b : Bool) (a x : ℕ) → unite a (cond b x empty) ≡ cond b (unite a x) a
left_out true a x = refl
left_out false a x = or_zero_r a

pub union_where_lem : (n : ℕ) (t : ℕ → Bool) (f : ℕ → ℕ) → union_of n (λ i. cond (t i) (f i) empty) ≡ union_where n t f
unfolding union_of union_where
union_where_lem zero t f = refl
union_where_lem (suc n) t f =
    left_out (t n) (union_of n (λ i. cond (t i) (f i) empty)) (f n)
    ∙ ap (λ (u : ℕ). cond (t n) (unite u (f n)) u) (union_where_lem n t f)

-- ---- a union of the words that a row of entries picks

unite_assoc : (a b c : ℕ) → unite (unite a b) c ≡ unite a (unite b c)
unite_assoc a b c =
    ext (unite (unite a b) c) (unite a (unite b c)) (λ i.
    has-unite (unite a b) c i ∙ ap (λ (x : Bool). x || has c i) (has-unite a b i) ∙ or_assoc (has a i) (has b i) (has c i)
    ∙ sym (has-unite a (unite b c) i ∙ ap (λ (x : Bool). has a i || x) (has-unite b c i)))

first_apart : (n : ℕ) (f : ℕ → ℕ) → union_of (suc n) f ≡ unite (f 0) (union_of n (λ q. f (suc q)))
unfolding union_of
first_apart zero f = or_zero_l (f 0) ∙ sym (or_zero_r (f 0))
first_apart (suc n) f =
    ap (λ (u : ℕ). unite u (f (suc n))) (first_apart n f) ∙ unite_assoc (f 0) (union_of n (λ q. f (suc q))) (f (suc n))

-- the words whose entries have r, united one after the other
picked : (r : ℕ) (w row : List ℕ) (a : ℕ) → length row ≡ length w
    → fold (λ all p. cond (has p.1 r) (bit_or all p.0) all) a (zip w row)
    ≡ unite a (union_of (length w) (λ q. cond (has (get_or row q 0) r) (get_or w q 0) empty))
unfolding union_of
picked r [] row a e = sym (or_zero_r a)
picked r (x ∷ w) [] a e = absurd (omega arith)
picked r (x ∷ w) (y ∷ row) a e =
    go (has y r) (λ b. picked r w row b (omega arith))
    ∙ ap (unite a) (sym (first_apart (length w) (λ q. cond (has (get_or (y ∷ row) q 0) r) (get_or (x ∷ w) q 0) empty)))
  where
    others : ℕ
    others = union_of (length w) (λ q. cond (has (get_or row q 0) r) (get_or w q 0) empty)

    go : (b : Bool) → ((a : ℕ) → fold (λ all p. cond (has p.1 r) (bit_or all p.0) all) a (zip w row) ≡ unite a others)
        → fold (λ all p. cond (has p.1 r) (bit_or all p.0) all) (cond b (unite a x) a) (zip w row) ≡ unite a (unite (cond b x empty) others)
    go true others_so = others_so (unite a x) ∙ unite_assoc a x others
    go false others_so = others_so a ∙ ap (unite a) (sym (or_zero_l others))

pub picked_eight : (r : ℕ) (w row : List ℕ) (y : ℕ) → length w ≡ 8 → length row ≡ 8
    → y ≡ fold (λ all p. cond (has p.1 r) (bit_or all p.0) all) 0 (zip w row)
    → y ≡ union_of 8 (λ q. cond (has (get_or row q 0) r) (get_or w q 0) empty)
picked_eight r w row y e f is =
    is ∙ picked r w row 0 (f ∙ sym e) ∙ or_zero_l _
    ∙ ap (λ (n : ℕ). union_of n (λ q. cond (has (get_or row q 0) r) (get_or w q 0) empty)) e
