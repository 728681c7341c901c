-- The square of eight by eight bits turned about its diagonal by three exchanges of bits. Each exchange moves the bits of a mask by k places
-- up and those k places above them down; where each bit comes from is one test over the 64 places, which antt computes.
use Prim.Native.Nat.{ℕ, ◌+◌, ◌*◌, ◌-◌, ◌/◌, ◌%◌, ◌^◌, ◌<◌}
use mathlib.Core.Path.{◌≡◌, refl, sym, ap, ap₂, ◌∙◌, subst}
use mathlib.Core.Bool.{Bool, true, false, cond, not, ◌&&◌, beq, and-true, and-false}
use mathlib.Core.List.{List, [], ◌∷◌}
use native.Mathlib.Decide.{dec_lt}
use native.Mathlib.Omega.{arith}
use lib.Bits.{bit_and, bit_xor}
use lib.Dec.{T, eqb, eqb→eq, ltb, ltb→lt}
use Rattle.relation.specs.Sets.{has}
use Rattle.relation.proofs.Tests.{all, all_at, every, each}
use Rattle.relation.proofs.Member.{has-intersect}
use Rattle.lanes.proofs.Digits.{has_xor}
use Rattle.lanes.proofs.Shifts.{has_shr, has_shl, has_shl_below, has-low}

-- ---- one exchange

abbrev chosen : ℕ → ℕ → ℕ → ℕ
chosen k mask x = bit_and (bit_xor x (x / 2 ^ k)) mask

-- as the code does it on words
abbrev pub exchanged : ℕ → ℕ → ℕ → ℕ
exchanged k mask x = bit_xor (bit_xor x (chosen k mask x)) (chosen k mask x * 2 ^ k % 2 ^ 64)

-- the place that the bit at i comes from
unfoldable pub source : ℕ → ℕ → ℕ → ℕ
source k mask i = cond (has mask i) (k + i) (cond (has (mask * 2 ^ k) i) (i - k) i)

abbrev differ : Bool → Bool → Bool
differ a b = not (beq a b)

with_false : (a : Bool) → differ a false ≡ a
with_false true = refl
with_false false = refl

undone : (a b : Bool) → differ a (differ a b) ≡ b
undone true true = refl
undone true false = refl
undone false true = refl
undone false false = refl

undone_after : (a c : Bool) → differ a (differ c a) ≡ c
undone_after true true = refl
undone_after true false = refl
undone_after false true = refl
undone_after false false = refl

-- one bit: b comes down where the mask has the bit, c comes up where the moved mask has it, and a stays
moved : (a b c m n : Bool) → T (not (m && n)) → differ (differ a (differ a b && m)) (differ c a && n) ≡ cond m b (cond n c a)
moved a b c true true t = absurd t
moved a b c true false t =
    ap₂ differ (ap (differ a) (and-true (differ a b)) ∙ undone a b) (and-false (differ c a)) ∙ with_false b
moved a b c false n t =
    ap (λ (x : Bool). differ x (differ c a && n)) (ap (differ a) (and-false (differ a b)) ∙ with_false a) ∙ up n
  where
    up : (n : Bool) → differ a (differ c a && n) ≡ cond n c a
    up true = ap (differ a) (and-true (differ c a)) ∙ undone_after a c
    up false = ap (differ a) (and-false (differ c a)) ∙ with_false a

has_at : (x : ℕ) (b : Bool) (i j : ℕ) → has x (cond b i j) ≡ cond b (has x i) (has x j)
has_at x true i j = refl
has_at x false i j = refl

has_chosen : (k mask x i : ℕ) → has (chosen k mask x) i ≡ differ (has x i) (has x (k + i)) && has mask i
has_chosen k mask x i =
    has-intersect (bit_xor x (x / 2 ^ k)) mask i
    ∙ ap (λ (b : Bool). b && has mask i) (has_xor x (x / 2 ^ k) i ∙ ap (differ (has x i)) (has_shr x k i))

has_chosen_up : (k mask x i : ℕ) → has (chosen k mask x * 2 ^ k) i ≡ differ (has x (i - k)) (has x i) && has (mask * 2 ^ k) i
has_chosen_up k mask x i = go (dec_lt i k)
  where
    go : Dec (i < k) → has (chosen k mask x * 2 ^ k) i ≡ differ (has x (i - k)) (has x i) && has (mask * 2 ^ k) i
    go (yes l) =
        has_shl_below (chosen k mask x) k i l
        ∙ sym (ap (λ (b : Bool). differ (has x (i - k)) (has x i) && b) (has_shl_below mask k i l) ∙ and-false (differ (has x (i - k)) (has x i)))
    go (no n) =
        let back : k + (i - k) ≡ i = omega arith in
        subst (λ (y : ℕ). has (chosen k mask x * 2 ^ k) y ≡ differ (has x (i - k)) (has x y) && has (mask * 2 ^ k) y) back
        (has_shl (chosen k mask x) k (i - k) ∙ has_chosen k mask x (i - k)
        ∙ ap (λ (b : Bool). differ (has x (i - k)) (has x (k + (i - k))) && b) (sym (has_shl mask k (i - k))))

pub has_exchanged : (k mask x i : ℕ) → i < 64 → T (not (has mask i && has (mask * 2 ^ k) i))
    → has (exchanged k mask x) i ≡ has x (source k mask i)
unfolding source
has_exchanged k mask x i h t =
    has_xor (bit_xor x (chosen k mask x)) (chosen k mask x * 2 ^ k % 2 ^ 64) i
    ∙ ap₂ differ (has_xor x (chosen k mask x) i ∙ ap (differ (has x i)) (has_chosen k mask x i))
    (has-low (chosen k mask x * 2 ^ k) 64 i h ∙ has_chosen_up k mask x i)
    ∙ moved (has x i) (has x (k + i)) (has x (i - k)) (has mask i) (has (mask * 2 ^ k) i) t
    ∙ sym (has_at x (has mask i) (k + i) (cond (has (mask * 2 ^ k) i) (i - k) i)
    ∙ ap (cond (has mask i) (has x (k + i))) (has_at x (has (mask * 2 ^ k) i) (i - k) i))

-- ---- the three exchanges

abbrev pub flip_of : ℕ → ℕ
flip_of x = exchanged 28 4042322160 (exchanged 14 225176545447116 (exchanged 7 47851476196393130 x))

abbrev across : ℕ → ℕ
across i = 8 * (i % 8) + i / 8

abbrev apart : ℕ → ℕ → ℕ → Bool
apart k mask i = not (has mask i && has (mask * 2 ^ k) i)

tests : ℕ → List Bool
tests i =
    let j = source 28 4042322160 i in
    let l = source 14 225176545447116 j in
    apart 28 4042322160 i ∷ ltb j 64 ∷ apart 14 225176545447116 j ∷ ltb l 64 ∷ apart 7 47851476196393130 l
    ∷ eqb (source 7 47851476196393130 l) (across i)
    ∷ []

tested : T (all 64 (λ i. every (tests i)))
unfolding all every tests source has
tested = tt

pub has_flipped : (x i : ℕ) → i < 64 → has (flip_of x) i ≡ has x (across i)
unfolding tests
has_flipped x i h =
    let t = each (tests i) (all_at 64 (λ i. every (tests i)) tested i h) in
    let j = source 28 4042322160 i in
    let l = source 14 225176545447116 j in
    has_exchanged 28 4042322160 (exchanged 14 225176545447116 (exchanged 7 47851476196393130 x)) i h t.0
    ∙ has_exchanged 14 225176545447116 (exchanged 7 47851476196393130 x) j (ltb→lt j 64 t.1.0) t.1.1.0
    ∙ has_exchanged 7 47851476196393130 x l (ltb→lt l 64 t.1.1.1.0) t.1.1.1.1.0
    ∙ ap (has x) (eqb→eq (source 7 47851476196393130 l) (across i) t.1.1.1.1.1.0)
