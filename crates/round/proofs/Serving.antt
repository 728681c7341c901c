-- Arguments that serve: what a round then works on, that it goes through the regions below n alone, and its promise.
use Prim.Native.Nat.{ℕ, ◌+◌, ◌*◌, ◌-◌, ◌/◌, ◌^◌, ◌<◌, ◌≤◌}
use mathlib.Core.Path.{◌≡◌, refl, sym, ap, ◌∙◌, subst}
use mathlib.Core.Bool.{Bool, true, false, cond, ◌&&◌, true≢false, and-true}
use mathlib.Core.List.{List}
use native.Mathlib.Omega.{arith}
use borrow.Author.Tests.{leb-true, eqb-true}
use lib.Dec.{eqb, leb, lit<}
use lib.ListN.{length}
use Rattle.lists.proofs.Splits.{split_lt}
use Rattle.relation.specs.Sets.{has}
use Rattle.relation.proofs.Member.{has-intersect}
use Rattle.lanes.proofs.Shifts.{has_shr, has_beyond}
use Rattle.lanes.proofs.Digits.{all_ones}
use Rattle.matrix.specs.Cells.{row, column}
use Rattle.std.proofs.Common.{Result}
use Rattle.round.specs.declared.rounds.Emptied.{Emptied}
use Rattle.planes.specs.Planes.{sets_of}
use Rattle.round.specs.Round.{known, new_set, round_planes}
use Rattle.planes.specs.Planes.{block_of}
use Rattle.round.specs.Onward.{onward_of}
use Rattle.round.specs.Calls.{serves_round, below, came_of, round_leaves, Rounds}
use Rattle.round.specs.Inner.{Room, Ready, Wiring, Made, part_of, Wired}
use Rattle.planes.proofs.Blocks.{planes_same}
use Rattle.round.proofs.LivePlaces.{live_same}
use Rattle.round.proofs.Rounding.{onward_length, part_wired}

-- ---- what a round works on

pub ready_room : {n live old new onward : ℕ} → Ready n live old new onward → Room live old onward
ready_room {n} {live} {old} {new} {onward} R = record {
  row = λ k e. let l = R.low k e in let w = R.whole in omega arith;
  space = λ k e. let l = R.low k e in let s = R.space in omega arith;
}

pub ready_words : {n live new : ℕ} (old onward area : List ℕ) → live < 2 ^ 64 → Ready n live (length old) new (length onward)
    → area ≡ onward_of live old onward → Ready n live (length old) new (length area) × Wiring live old area
ready_words {n} {live} {new} old onward area small R e =
    let room = ready_room R in
    let long : length area ≡ length onward = ap length e ∙ onward_length live old onward (length old) room in (
      record { few = R.few; whole = R.whole; made = R.made; low = R.low; space = let s = R.space in omega arith },
      record {
        wired = λ k h. subst (λ (l : List ℕ). Wired (block_of old k) (part_of l k) 8) (sym e) (part_wired live old onward (length old) room small k h);
      },
    )

-- ---- arguments that serve

both_true : (a b : Bool) → a && b ≡ true → (a ≡ true) × (b ≡ true)
both_true true b e = (refl, e)
both_true false b e = absurd (true≢false (sym e))

pub record Served (n old new onward : ℕ) : Type 0 where
  pub low : 1 ≤ n
  pub few : n ≤ 64
  pub whole : old ≡ 8 * n
  pub made : new ≡ 8 * n
  pub space : 64 * n ≤ onward

pub served : (n old new onward : ℕ) → serves_round n old new onward ≡ true → Served n old new onward
served n old new onward e =
    let a = both_true _ _ e in
    let r = both_true (leb 1 n) (leb n 64) a.0 in
    let b = both_true (eqb old (8 * n)) _ a.1 in
    let c = both_true (eqb new (8 * n)) (leb (64 * n) onward) b.1 in
    record {
      low = leb-true 1 n r.0;
      few = leb-true n 64 r.1;
      whole = eqb-true old (8 * n) b.0;
      made = eqb-true new (8 * n) c.0;
      space = leb-true (64 * n) onward c.1;
    }

-- ---- the regions below n

module _ (n live : ℕ) (one : 1 ≤ n) (few : n ≤ 64) where
  below_bits : (k : ℕ) → has (below n live) k ≡ has live k && has 18446744073709551615 (64 - n + k)
  below_bits k =
      has-intersect live (18446744073709551615 / 2 ^ (64 - n)) k
      ∙ ap (λ (b : Bool). has live k && b) (has_shr 18446744073709551615 (64 - n) k)

  pub below_in : (k : ℕ) → k < n → has (below n live) k ≡ has live k
  below_in k h = below_bits k ∙ ap (λ (b : Bool). has live k && b) (all_ones (64 - n + k) (omega arith)) ∙ and-true (has live k)

  pub below-low : (k : ℕ) → has (below n live) k ≡ true → k < n
  below-low k e =
      split_lt k n (λ l. l)
      (λ l. absurd (true≢false (sym (both_true (has live k) _ (sym (below_bits k) ∙ e)).1
      ∙ has_beyond 18446744073709551615 64 (64 - n + k) (lit< tt) (omega arith))))

  -- a round goes through them alone
  pub round-below : (old : List ℕ) → round_planes n (below n live) old ≡ round_planes n live old
  unfolding new_set
  round-below old =
      planes_same n (new_set 64 n (below n live) (sets_of old)) (new_set 64 n live (sets_of old)) (λ p h.
      live_same 64 64 (sets_of old) (sets_of old) _ (λ k. has live k && known 64 (sets_of old) (p / 64) k) (row 64 p) (column 64 p) n refl
      (λ k l. ap (λ (b : Bool). b && known 64 (sets_of old) (p / 64) k) (below_in k l)) (λ k l. refl) (λ k l. refl))

  came-below : (old : List ℕ) → came_of n (below n live) old ≡ came_of n live old
  unfolding came_of
  came-below old = rw (round-below old)

  leaves-below : (old new : List ℕ) → round_leaves n (below n live) old new ≡ round_leaves n live old new
  unfolding round_leaves
  leaves-below old new = rw (round-below old)

pub served_ready : {n old new onward : ℕ} (live low : ℕ) → low ≡ below n live → Served n old new onward → Ready n low old new onward
served_ready {n} {old} {new} {onward} live low e S =
    subst (λ (l : ℕ). Ready n l old new onward) (sym e)
    (record { few = S.few; whole = S.whole; made = S.made; low = below-low n live S.low S.few; space = S.space })

-- ---- the promise

module _ (n live : ℕ) (old new onward : List ℕ) where
  pub rounds-made : (low : ℕ) (new' onward' : List ℕ) (answer : Result ℕ Emptied) → serves_round n (length old) (length new) (length onward) ≡ true
      → low ≡ below n live → Made n low old new onward new' onward' answer → Rounds n live old new onward new' onward' answer
  rounds-made low new' onward' answer e q made =
      let M : Made n (below n live) old new onward new' onward' answer = subst (λ (l : ℕ). Made n l old new onward new' onward' answer) q made in
      let S = served n (length old) (length new) (length onward) e in
      record {
        came = M.blocks.came ∙ came-below n live S.low S.few old ∙ sym (taken (came_of n live old) _);
        in_new = M.blocks.in_new ∙ leaves-below n live S.low S.few old new ∙ sym (taken (round_leaves n live old new) new);
        in_onward = M.in_onward ∙ sym (taken (onward_of (below n live) old onward) onward);
      }
    where
      taken : {A : Type 0} (x y : A) → cond (serves_round n (length old) (length new) (length onward)) x y ≡ x
      taken x y = ap (λ (b : Bool). cond b x y) e
