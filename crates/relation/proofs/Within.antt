-- The order of sets: Within a b, that every member of a is one of b. Intersection is the greatest set within both.
use mathlib.Core.Path.{◌≡◌, sym, ap, ◌∙◌, subst}
use Prim.Native.Nat.{ℕ, suc, ◌≤◌, ◌<◌}
use mathlib.Core.Bool.{Bool, ◌&&◌, and_assoc}
use native.Mathlib.Nat.{lt_of_le_of_lt, le_refl, mod-eq_of_lt}
use lib.Arith.{lt_of_le-ne}
use lib.Dec.{T, eqb, eqb→eq, eqb_refl}
use lib.Pow.{pow-lt}
use lib.Bits.{and_comm, and_self, and_zero_r, and_le_l, and_le_r, and_mask}
use Rattle.relation.specs.Relations.{equal}
use Rattle.relation.specs.Sets.{has, only, empty, universal, intersect, subset, Within}
use Rattle.relation.proofs.Member.{Part, ext, both_ways, has-intersect, intersect_members, members_intersect, only_has_one, some_member}

-- ---- intersection

pub intersect_comm : (a b : ℕ) → intersect a b ≡ intersect b a
intersect_comm a b = and_comm a b

pub intersect_assoc : (a b c : ℕ) → intersect (intersect a b) c ≡ intersect a (intersect b c)
intersect_assoc a b c =
    ext (intersect (intersect a b) c) (intersect a (intersect b c)) (λ r.
    has-intersect (intersect a b) c r
    ∙ ap (λ (x : Bool). x && has c r) (has-intersect a b r)
    ∙ and_assoc (has a r) (has b r) (has c r)
    ∙ ap (λ (x : Bool). has a r && x) (sym (has-intersect b c r))
    ∙ sym (has-intersect a (intersect b c) r))

pub intersect_le : (a b : ℕ) → intersect a b ≤ a
intersect_le a b = and_le_l a b

pub intersect_less : (a b : ℕ) → (intersect a b ≡ a → ⊥) → intersect a b < a
intersect_less a b n = lt_of_le-ne (intersect_le a b) n

-- ---- within

pub within_refl : (a : ℕ) → Within a a
within_refl a = record { meets = and_self a }

pub within_of_eq : {a b : ℕ} → a ≡ b → Within a b
within_of_eq {a} {b} e = subst (λ (x : ℕ). Within a x) e (within_refl a)

pub within_trans : {a b c : ℕ} → Within a b → Within b c → Within a c
within_trans {a} {b} {c} p q = record {
  meets =
      ap (λ (x : ℕ). intersect x c) (sym p.meets) ∙ intersect_assoc a b c ∙ ap (intersect a) q.meets ∙ p.meets;
}

pub within_antisym : {a b : ℕ} → Within a b → Within b a → a ≡ b
within_antisym {a} {b} p q = sym p.meets ∙ intersect_comm a b ∙ q.meets

pub within_left : (a b : ℕ) → Within (intersect a b) a
within_left a b = record {
  meets =
      intersect_comm (intersect a b) a ∙ sym (intersect_assoc a a b) ∙ ap (λ (x : ℕ). intersect x b) (and_self a);
}

pub within-right : (a b : ℕ) → Within (intersect a b) b
within-right a b = record { meets = intersect_assoc a b b ∙ ap (intersect a) (and_self b) }

pub within_both : {a b c : ℕ} → Within c a → Within c b → Within c (intersect a b)
within_both {a} {b} {c} p q = record { meets = sym (intersect_assoc c a b) ∙ ap (λ (x : ℕ). intersect x b) p.meets ∙ q.meets }

pub within-empty : {a : ℕ} → Within a empty → a ≡ empty
within-empty {a} p = sym p.meets ∙ and_zero_r a

-- a set is no larger as a number than one it is within
pub within_le : {a b : ℕ} → Within a b → a ≤ b
within_le {a} {b} p = subst (λ (x : ℕ). x ≤ b) p.meets (and_le_r a b)

pub within-byte : {a b : ℕ} → Within a b → b < 256 → a < 256
within-byte {a} {b} p h = lt_of_le_of_lt (within_le p) h

pub byte_within_universal : (a : ℕ) → a < 256 → Within a universal
byte_within_universal a h = record { meets = and_mask a 8 ∙ mod-eq_of_lt h }

-- ---- within, by members and by the test

pub within_members : {a b : ℕ} → Within a b → Part a b
within_members {a} {b} p r t = (intersect_members a b r (subst (λ (x : ℕ). T (has x r)) (sym p.meets) t)).1

pub members_within : {a b : ℕ} → Part a b → Within a b
members_within {a} {b} f = record {
  meets = both_ways (intersect a b) a (λ r t. (intersect_members a b r t).0) (λ r t. members_intersect a b r t (f r t));
}

pub within-subset : {a b : ℕ} → Within a b → T (subset a b)
within-subset {a} {b} p = subst (λ (x : ℕ). T (eqb x a)) (sym p.meets) (eqb_refl a)

pub subset-within : {a b : ℕ} → T (subset a b) → Within a b
subset-within {a} {b} t = record { meets = eqb→eq (intersect a b) a t }

-- ---- sets of one relation

pub only-within : (k : ℕ) {a : ℕ} → Within a (only k) → (a ≡ empty → ⊥) → a ≡ only k
only-within k {a} p n =
    let w = some_member (suc k) a (lt_of_le_of_lt (within_le p) (pow-lt (le_refl (suc k)))) n in
    let e = only_has_one k w.0 (within_members p w.0 w.2) in
    within_antisym p (members_within (λ r t. subst (λ (x : ℕ). T (has a x)) (e ∙ sym (only_has_one k r t)) w.2))

-- a set within {equal} that is not empty is {equal}
pub only_equal_within : {a : ℕ} → Within a (only equal) → (a ≡ empty → ⊥) → a ≡ only equal
only_equal_within p n = only-within equal p n
