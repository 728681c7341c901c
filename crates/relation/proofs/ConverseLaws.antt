-- The laws of the converse of a set, each for every set for which it holds.
use Prim.Native.Nat.{ℕ, ◌<◌}
use mathlib.Core.Path.{◌≡◌, refl, sym, ap, ◌∙◌, subst}
use mathlib.Core.Bool.{Bool}
use lib.Dec.{T, eqb, eqb→eq}
use lib.Pow.{pow-lt}
use Rattle.relation.specs.Relations.{equal}
use Rattle.relation.specs.Sets.{has, only, empty, universal, intersect, union_of, over, members_below, size, Within}
use Rattle.relation.specs.Converse.{flip, converse}
use Rattle.relation.proofs.Tests.{all, all_at}
use Rattle.relation.proofs.Member.{over_members, members_over, only_has_one, intersect_members, members_intersect}
use Rattle.relation.proofs.Over.{over_part, over-same, over-only, over_onlys, over-empty, over-over, over-byte}
use Rattle.relation.proofs.Entries.{entry}
use Rattle.relation.proofs.Within.{within_members, members_within, within_antisym, within_both, within_left, within-right}

-- the converse of one relation, as a set
abbrev pub flipped : ℕ → ℕ
flipped r = only (flip r)

pub converse-byte : (s : ℕ) → converse s < 256
unfolding converse
converse-byte s = over-byte s flipped (λ p h. pow-lt (entry p p h h).below)

pub converse_twice : (s : ℕ) → s < 256 → converse (converse s) ≡ s
unfolding converse
converse_twice s h =
    over-over s flipped flipped
    ∙ over-same s (λ p. over (flipped p) flipped) (λ p. only p)
    (λ p l. over-only (flip p) flipped (entry p p l l).below ∙ ap only (entry p p l l).twice)
    ∙ over_onlys s h

pub converse-within : {a b : ℕ} → Within a b → Within (converse a) (converse b)
unfolding converse
converse-within {a} {b} p = members_within (over_part a b flipped flipped (within_members p) (λ q h r t. t))

-- a relation below 8 is the one that its converse comes from
one_source : (p r : ℕ) → p < 8 → T (has (flipped p) r) → flip r ≡ p
one_source p r h t = ap flip (only_has_one (flip p) r t) ∙ (entry p p h h).twice

-- a relation of both converses comes from one relation of both sets
common : (a b r : ℕ) → T (has (converse a) r) → T (has (converse b) r) → T (has (converse (intersect a b)) r)
unfolding converse
common a b r t u =
    let v = over_members a flipped r t in
    let w = over_members b flipped r u in
    let e = sym (one_source w.relation r w.below w.gives) ∙ one_source v.relation r v.below v.gives in
    members_over (intersect a b) flipped r (record {
      relation = v.relation;
      below = v.below;
      member = members_intersect a b v.relation v.member (subst (λ (x : ℕ). T (has b x)) e w.member);
      gives = v.gives;
    })

pub converse-intersect : (a b : ℕ) → converse (intersect a b) ≡ intersect (converse a) (converse b)
converse-intersect a b =
    within_antisym
    (within_both (converse-within (within_left a b)) (converse-within (within-right a b)))
    (members_within (λ r t. let w = intersect_members (converse a) (converse b) r t in common a b r w.0 w.1))

pub converse-empty : converse empty ≡ empty
unfolding converse
converse-empty = over-empty flipped

pub converse-some : (s : ℕ) → s < 256 → (s ≡ empty → ⊥) → converse s ≡ empty → ⊥
converse-some s h n e = n (sym (converse_twice s h) ∙ ap converse e ∙ converse-empty)

pub converse-equal : converse (only equal) ≡ only equal
unfolding converse over union_of has flip
converse-equal = refl

pub converse-universal : converse universal ≡ universal
unfolding converse over union_of has flip
converse-universal = refl

same_size : ℕ → Bool
same_size s = eqb (size (converse s)) (size s)

tested : T (all 256 same_size)
unfolding all same_size size members_below converse over union_of has flip
tested = tt

pub converse-size : (s : ℕ) → s < 256 → size (converse s) ≡ size s
unfolding same_size
converse-size s h = eqb→eq (size (converse s)) (size s) (all_at 256 same_size tested s h)
