-- The bits of a number made by a test, the set of a lane, and of one relation composed with the sets of all lanes.
use Prim.Native.Nat.{ℕ, zero, suc, ◌^◌, ◌<◌, ◌≤◌}
use mathlib.Core.Path.{◌≡◌, refl, sym, ap, ap₂, ◌∙◌}
use mathlib.Core.Bool.{Bool, true, false, cond, ◌&&◌, and_comm}
use mathlib.Core.List.{List}
use native.Mathlib.Nat.{le_refl}
use native.Mathlib.Omega.{arith}
use lib.Bits.{or_lt}
use lib.ListN.{get_or}
use lib.Pow.{pow-lt, pow_pos}
use Rattle.relation.specs.Sets.{has, only, empty, unite, union_of, over}
use Rattle.relation.specs.Composition.{table}
use Rattle.relation.proofs.Member.{has-only, ext_byte}
use Rattle.lanes.specs.Lists.{mask_of, some}
use Rattle.lanes.specs.Words.{set_at, wired}
use Rattle.lanes.proofs.Lists.{list_at}
use Rattle.lanes.proofs.Unions.{some_same, some_one, has_union, has_cond}

-- ---- a number by its bits

pub has_mask : (n : ℕ) (test : ℕ → Bool) (i : ℕ) → i < n → has (mask_of n test) i ≡ test i
unfolding mask_of
has_mask n test i h =
    has_union n (λ k. cond (test k) (only k) empty) i
    ∙ some_same n _ _ (λ k l. has_cond (test k) (only k) i ∙ ap (λ (b : Bool). test k && b) (has-only k i))
    ∙ some_one n test i h

pub mask_below : (n : ℕ) (test : ℕ → Bool) (k : ℕ) → n ≤ k → mask_of n test < 2 ^ k
unfolding mask_of union_of
mask_below zero test k h = pow_pos k
mask_below (suc n) test k h =
    or_lt k (mask_of n test) (cond (test n) (only n) empty) (mask_below n test k (omega arith)) (kept (test n))
  where
    kept : (b : Bool) → cond b (only n) empty < 2 ^ k
    kept true = pow-lt h
    kept false = pow_pos k

pub mask_same : (n : ℕ) (test other : ℕ → Bool) → ((i : ℕ) → i < n → test i ≡ other i) → mask_of n test ≡ mask_of n other
unfolding mask_of union_of
mask_same zero test other e = refl
mask_same (suc n) test other e =
    ap₂ unite (mask_same n test other (λ i h. e i (omega arith))) (ap (λ (b : Bool). cond b (only n) empty) (e n (le_refl (suc n))))

-- ---- the set of a lane

pub has-set : (w : List ℕ) (x r : ℕ) → r < 8 → has (set_at w x) r ≡ has (get_or w r 0) x
unfolding set_at
has-set w x r h = has_mask 8 (λ r. has (get_or w r 0) x) r h

pub set-byte : (w : List ℕ) (x : ℕ) → set_at w x < 256
unfolding set_at
set-byte w x = mask_below 8 (λ r. has (get_or w r 0) x) 8 (le_refl 8)

-- a set of relations is the set of lane x where the words have its members
pub set_is : (w : List ℕ) (x s : ℕ) → s < 256 → ((r : ℕ) → r < 8 → has (get_or w r 0) x ≡ has s r) → set_at w x ≡ s
set_is w x s h e = ext_byte (set_at w x) s (set-byte w x) h (λ r l. has-set w x r l ∙ e r l)

-- ---- one relation composed with the set of each lane

-- the members of a union over the members of a lane's set
pub has-over : (w : List ℕ) (x : ℕ) (f : ℕ → ℕ) (r : ℕ)
    → has (over (set_at w x) f) r ≡ some 8 (λ q. has (get_or w q 0) x && has (f q) r)
unfolding over
has-over w x f r =
    has_union 8 (λ q. cond (has (set_at w x) q) (f q) empty) r
    ∙ some_same 8 _ _ (λ q l. has_cond (has (set_at w x) q) (f q) r ∙ ap (λ (b : Bool). b && has (f q) r) (has-set w x q l))

pub has_wired : (p : ℕ) (w : List ℕ) (x r : ℕ) → r < 8
    → has (get_or (wired p w) r 0) x ≡ has (over (set_at w x) (λ q. table p q)) r
unfolding wired
has_wired p w x r h =
    ap (λ (a : ℕ). has a x) (list_at 8 (λ r. union_of 8 (λ q. cond (has (table p q) r) (get_or w q 0) empty)) r h)
    ∙ has_union 8 (λ q. cond (has (table p q) r) (get_or w q 0) empty) x
    ∙ some_same 8 _ _ (λ q l. has_cond (has (table p q) r) (get_or w q 0) x ∙ and_comm (has (table p q) r) (has (get_or w q 0) x))
    ∙ sym (has-over w x (λ q. table p q) r)
