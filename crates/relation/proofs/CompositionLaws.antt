-- The laws of the composition of two sets, each for all sets for which it holds.
use Prim.Native.Nat.{ℕ, ◌+◌, ◌*◌, ◌/◌, ◌%◌, ◌<◌}
use mathlib.Core.Path.{◌≡◌, sym, ap, ◌∙◌, subst}
use native.Mathlib.Nat.{zero-add}
use native.Mathlib.Omega.{arith}
use lib.Dec.{T, lit<}
use lib.ListN.{get_or}
use Rattle.relation.specs.Relations.{equal}
use Rattle.relation.specs.Sets.{has, only, empty, universal, unite, over, Within}
use Rattle.relation.specs.Converse.{flip, converse}
use Rattle.relation.specs.Composition.{table, compose}
use Rattle.lists.proofs.TabledLaws.{get_or-tabled}
use Rattle.relation.specs.Lent.{entry_at, listed, compose_by}
use Rattle.relation.proofs.Member.{members_over, only-has, only_has_one, some_member}
use Rattle.relation.proofs.Over.{over_part, over-same, over-only, over_onlys, over_empties, over-empty}
use Rattle.relation.proofs.Over.{over-over, over_swap, over-unite, over_unites, over_constant, over-byte}
use Rattle.relation.proofs.Entries.{entry}
use Rattle.relation.proofs.Within.{within_members, members_within}
use Rattle.relation.proofs.ConverseLaws.{flipped}

-- one relation composed with a set
abbrev along : ℕ → ℕ → ℕ
along b p = over b (λ q. table p q)

pub compose-byte : (a b : ℕ) → compose a b < 256
unfolding compose
compose-byte a b = over-byte a (along b) (λ p hp. over-byte b (λ q. table p q) (λ q hq. (entry p q hp hq).byte))

pub compose-within : {a b c d : ℕ} → Within a c → Within b d → Within (compose a b) (compose c d)
unfolding compose
compose-within {a} {b} {c} {d} f g =
    members_within
    (over_part a c (along b) (along d) (within_members f)
    (λ p hp. over_part b d (λ q. table p q) (λ q. table p q) (within_members g) (λ q hq r t. t)))

pub compose_empty_left : (b : ℕ) → compose empty b ≡ empty
unfolding compose
compose_empty_left b = over-empty (along b)

pub compose_empty_right : (a : ℕ) → compose a empty ≡ empty
unfolding compose
compose_empty_right a = over-same a (along empty) (λ p. empty) (λ p h. over-empty (λ q. table p q)) ∙ over_empties a

pub equal-compose : (s : ℕ) → s < 256 → compose (only equal) s ≡ s
unfolding compose
equal-compose s h =
    over-only equal (along s) (lit< tt)
    ∙ over-same s (λ q. table equal q) (λ q. only q) (λ q l. (entry q q l l).from-equal) ∙ over_onlys s h

pub compose-equal : (s : ℕ) → s < 256 → compose s (only equal) ≡ s
unfolding compose
compose-equal s h =
    over-same s (along (only equal)) (λ p. only p) (λ p l. over-only equal (λ q. table p q) (lit< tt) ∙ (entry p p l l).to-equal)
    ∙ over_onlys s h

-- the converse of a composition is the composition of the converses in reverse order
pub converse-compose : (a b : ℕ) → converse (compose a b) ≡ compose (converse b) (converse a)
unfolding converse compose
converse-compose a b =
    over-over a (along b) flipped
    ∙ over-same a (λ p. over (along b p) flipped) (λ p. over b (λ q. table (flip q) (flip p)))
    (λ p hp. over-over b (λ q. table p q) flipped
    ∙ over-same b (λ q. over (table p q) flipped) (λ q. table (flip q) (flip p)) (λ q hq. (entry p q hp hq).reversed))
    ∙ over_swap a b (λ p q. table (flip q) (flip p))
    ∙ over-same b (λ q. over a (λ p. table (flip q) (flip p))) (λ q. over (flipped q) (along (over a flipped)))
    (λ q hq. sym (over-only (flip q) (along (over a flipped)) (entry q q hq hq).below
    ∙ over-over a flipped (λ p. table (flip q) p)
    ∙ over-same a (λ p. over (flipped p) (λ p. table (flip q) p)) (λ p. table (flip q) (flip p))
    (λ p hp. over-only (flip p) (λ p. table (flip q) p) (entry p p hp hp).below)))
    ∙ sym (over-over b flipped (along (over a flipped)))

loops_to_equal : (a : ℕ) → a < 256 → (a ≡ empty → ⊥) → T (has (compose a (converse a)) equal)
unfolding compose converse
loops_to_equal a h n =
    let w = some_member 8 a h n in
    let e = entry w.0 w.0 w.1 w.1 in
    members_over a (along (converse a)) equal (record {
      relation = w.0;
      below = w.1;
      member = w.2;
      gives = members_over (converse a) (λ q. table w.0 q) equal (record {
        relation = flip w.0;
        below = e.below;
        gives = e.loops;
        member = members_over a flipped (flip w.0) (record { relation = w.0; below = w.1; member = w.2; gives = only-has (flip w.0) });
      });
    })

-- equal is a way from a region to itself
pub compose_loop : (a : ℕ) → a < 256 → (a ≡ empty → ⊥) → Within (only equal) (compose a (converse a))
compose_loop a h n =
    members_within (λ r t. subst (λ (x : ℕ). T (has (compose a (converse a)) x)) (sym (only_has_one equal r t)) (loops_to_equal a h n))

-- ---- by the table that is lent

-- an entry of the list is a set composed with one relation
listed_at : (a q : ℕ) → a < 256 → q < 8 → get_or listed (8 * a + q) 0 ≡ over a (λ p. table p q)
unfolding listed
listed_at a q h l =
    let set : (8 * a + q) / 8 ≡ a = omega arith in
    let relation : (8 * a + q) % 8 ≡ q = omega arith in
    get_or-tabled 2048 0 entry_at (8 * a + q) (omega arith)
    ∙ ap entry_at (zero-add (8 * a + q))
    ∙ rw (set, relation)

-- by the listed entries a set composes as by the 64 compositions
pub compose-listed : (a b : ℕ) → a < 256 → compose_by listed a b ≡ compose a b
unfolding compose_by compose
compose-listed a b h =
    over-same b (λ q. get_or listed (8 * a + q) 0) (λ q. over a (λ p. table p q)) (λ q l. listed_at a q h l)
    ∙ sym (over_swap a b (λ p q. table p q))

-- ---- a set that is not empty, composed with the universal set

pub compose_universal_left : (b : ℕ) → b < 256 → (b ≡ empty → ⊥) → compose universal b ≡ universal
unfolding compose
compose_universal_left b h n =
    over_swap universal b (λ p q. table p q)
    ∙ over-same b (λ q. over universal (λ p. table p q)) (λ q. universal) (λ q l. (entry q q l l).column-universal)
    ∙ over_constant b universal h n

pub compose_universal_right : (a : ℕ) → a < 256 → (a ≡ empty → ⊥) → compose a universal ≡ universal
unfolding compose
compose_universal_right a h n =
    over-same a (along universal) (λ p. universal) (λ p l. (entry p p l l).row-universal) ∙ over_constant a universal h n

-- ---- composition distributes over union

pub compose_unite_left : (a b c : ℕ) → compose (unite a b) c ≡ unite (compose a c) (compose b c)
unfolding compose
compose_unite_left a b c = over-unite a b (along c)

pub compose_unite_right : (a b c : ℕ) → compose a (unite b c) ≡ unite (compose a b) (compose a c)
unfolding compose
compose_unite_right a b c =
    over-same a (along (unite b c)) (λ p. unite (along b p) (along c p)) (λ p h. over-unite b c (λ q. table p q))
    ∙ over_unites a (along b) (along c)
