-- What stands behind a refused record never matters: two scenes that agree up to and including the refused record get the same
-- answer.
use mathlib.Core.Path.{◌≡◌, refl, sym, ◌∙◌, subst}
use mathlib.Core.List.{List}
use Prim.Native.Nat.{ℕ, ◌+◌, ◌≤◌, ◌<◌}
use native.Mathlib.Omega.{arith}
use lib.ListN.{length, get_or}
use Rattle.region.specs.Lookup.{identifier}
use Rattle.region.specs.declared.Place.{Place}
use Rattle.std.specs.Prelude.{Option}
use Rattle.lists.specs.BigEndian.{number_at}
use Rattle.filing.specs.Said.{Said}
use Rattle.filing.specs.Places.{place_of}
use Rattle.scene.specs.Format.{most_bytes, region_kind, statement_kind, end_kind, length_of}
use Rattle.scene.specs.Record.{fails}
use Rattle.scene.specs.Reading.{refused_at, records, read_scene}
use Rattle.scene.specs.Reached.{Reached, start, Whole, Region}
use Rattle.scene.specs.Reached as reached
use Rattle.scene.specs.Alike.{SameFront, RefusedAlike, whole_alike, rest_alike, cut_alike}
use Rattle.scene.proofs.Reasons.{Begins, Looks, Declares, States, Reason, decides, declares_why, states_why}
use Rattle.scene.proofs.Reasons.{no_byte, unknown_kind, region_cut, zero_declared, declared_twice, too_many, new_region}
use Rattle.scene.proofs.Reasons.{statement_cut, from_undeclared, to_undeclared, empty-set, statement, no_region, bytes_left}
use Rattle.scene.proofs.Reasons.{region_length, statement-length, end-length, some-length}
use Rattle.scene.proofs.Reached.{at_refusal, ended_so}
use Rattle.scene.proofs.Endings.{within_limit, stopped}

module _ {scene other : List ℕ} where
  fewer : {count : ℕ} (less : ℕ) → less ≤ count → SameFront count scene other → SameFront less scene other
  fewer less h a = record { there = omega (arith, a.there); same = λ k l. a.same k (omega arith) }

  number_same : {count : ℕ} → SameFront count scene other → (from : ℕ) → from + 4 ≤ count → number_at scene from ≡ number_at other from
  number_same a from h =
      rw (a.same from (omega arith), a.same (from + 1) (omega arith), a.same (from + 2) (omega arith), a.same (from + 3) (omega arith))

  whole_same : {at kind : ℕ} → SameFront (at + length_of kind) scene other → Whole scene at kind → Whole other at kind
  whole_same {at} {kind} a w =
      record { fits = a.there; kind_is = sym (a.same at (omega (arith, some-length kind))) ∙ w.kind_is }

  looks_same : {said : Said} {from : ℕ} {found : Option Place} → number_at scene from ≡ number_at other from
      → Looks scene said from found → Looks other said from found
  looks_same {said} {from} {found} e l =
      record { finds = subst (λ (x : ℕ). place_of said (identifier x) ≡ found) e l.finds }

  module _ (at : ℕ) (a : SameFront (at + length_of region_kind) scene other) where
    name_same : number_at scene (at + 1) ≡ number_at other (at + 1)
    name_same = number_same a (at + 1) (omega (arith, region_length))

    region_same : {name : ℕ} → Region scene at name → Region other at name
    region_same r =
        record { whole = whole_same a r.whole; name_is = sym name_same ∙ r.name_is; name_not_zero = r.name_not_zero }

    declares_same : {said : Said} {name : ℕ} → Declares scene said at name → Declares other said at name
    declares_same d = record { region = region_same d.region; new = looks_same name_same d.new; room = d.room }

  module _ (at : ℕ) (a : SameFront (at + length_of statement_kind) scene other) where
    from-same : number_at scene (at + 1) ≡ number_at other (at + 1)
    from-same = number_same a (at + 1) (omega (arith, statement-length))

    to_same : number_at scene (at + 5) ≡ number_at other (at + 5)
    to_same = number_same a (at + 5) (omega (arith, statement-length))

    set_same : get_or scene (at + 9) 0 ≡ get_or other (at + 9) 0
    set_same = a.same (at + 9) (omega (arith, statement-length))

    states_same : {said : Said} {p q : Place} {set : ℕ} → States scene said at p q set → States other said at p q set
    states_same s =
        record {
          whole = whole_same a s.whole;
          from_is = looks_same from-same s.from_is;
          to_is = looks_same to_same s.to_is;
          set_is = sym set_same ∙ s.set_is;
          set_not_empty = s.set_not_empty;
        }

  -- an offset that one scene reaches, the other reaches too, and says the same on the way
  reached_same : {at : ℕ} {said : Said} → SameFront at scene other → Reached scene at said → Reached other at said
  reached_same a start = start
  reached_same a (reached.region {at} {said} name r e) =
      reached.region name (reached_same (fewer at (omega arith) a) r)
      (decides other said at (new_region name (declares_same at a (declares_why scene said at e))))
  reached_same a (reached.statement {at} {said} p q set r e) =
      reached.statement p q set (reached_same (fewer at (omega arith) a) r)
      (decides other said at (statement p q set (states_same at a (states_why scene said at e))))

-- the other scene reaches the refused record, and refuses it for the same reason
record Same (scene other : List ℕ) (said : Said) (at number offset : ℕ) : Type 0 where
  before : SameFront at scene other
  reason : Reason other said at (fails number offset)

module _ (scene other : List ℕ) (said : Said) (at : ℕ) where
  by_kind : (kind : ℕ) → get_or scene at 0 ≡ kind → SameFront (at + length_of (get_or scene at 0)) scene other
      → SameFront (at + length_of kind) scene other
  by_kind kind k a = subst (λ (x : ℕ). SameFront (at + length_of x) scene other) k a

  before_it : {number offset count : ℕ} → SameFront count scene other → at ≤ count → Reason other said at (fails number offset)
      → Same scene other said at number offset
  before_it a h r = record { before = fewer at h a; reason = r }

  begins-same : {kind : ℕ} → SameFront (at + 1) scene other → Begins scene at kind → Begins other at kind
  begins-same a b = record { begins = omega (arith, a.there); kind_is = sym (a.same at (omega arith)) ∙ b.kind_is }

  same_reason : {number offset : ℕ} → Reason scene said at (fails number offset) → RefusedAlike scene other number offset
      → Same scene other said at number offset
  same_reason (no_byte h) (whole_alike d e a) = absurd (d refl)
  same_reason (no_byte h) (cut_alike l a m) = absurd (omega arith)
  same_reason (unknown_kind h r s t) (whole_alike d e a) =
      let k : get_or scene at 0 ≡ get_or other at 0 = a.same at (omega (arith, some-length (get_or scene at 0))) in
      before_it a (omega arith)
      (unknown_kind (omega (arith, a.there, some-length (get_or scene at 0))) (λ q. r (k ∙ q)) (λ q. s (k ∙ q)) (λ q. t (k ∙ q)))
  same_reason (region_cut b h) (whole_alike d e a) = absurd (d refl)
  same_reason (region_cut b h) (cut_alike l a m) =
      before_it a (omega arith) (region_cut (begins-same a b) (subst (λ (x : ℕ). length other < at + length_of x) b.kind_is m))
  same_reason (zero_declared w z) (whole_alike d e a) =
      let s = by_kind region_kind w.kind_is a in
      before_it s (omega arith) (zero_declared (whole_same s w) (sym (name_same at s) ∙ z))
  same_reason (declared_twice name p r l) (whole_alike d e a) =
      let s = by_kind region_kind r.whole.kind_is a in
      before_it s (omega arith) (declared_twice name p (region_same at s r) (looks_same (name_same at s) l))
  same_reason (too_many name r l h) (whole_alike d e a) =
      let s = by_kind region_kind r.whole.kind_is a in
      before_it s (omega arith) (too_many name (region_same at s r) (looks_same (name_same at s) l) h)
  same_reason (statement_cut b h) (whole_alike d e a) = absurd (d refl)
  same_reason (statement_cut b h) (cut_alike l a m) =
      before_it a (omega arith) (statement_cut (begins-same a b) (subst (λ (x : ℕ). length other < at + length_of x) b.kind_is m))
  same_reason (from_undeclared w f) (whole_alike d e a) =
      let s = by_kind statement_kind w.kind_is a in
      before_it s (omega arith) (from_undeclared (whole_same s w) (looks_same (from-same at s) f))
  same_reason (to_undeclared p w f t) (whole_alike d e a) =
      let s = by_kind statement_kind w.kind_is a in
      before_it s (omega arith) (to_undeclared p (whole_same s w) (looks_same (from-same at s) f) (looks_same (to_same at s) t))
  same_reason (empty-set p q w f t z) (whole_alike d e a) =
      let s = by_kind statement_kind w.kind_is a in
      before_it s (omega arith)
      (empty-set p q (whole_same s w) (looks_same (from-same at s) f) (looks_same (to_same at s) t) (sym (set_same at s) ∙ z))
  same_reason (no_region w z) (whole_alike d e a) =
      let s = by_kind end_kind w.kind_is a in
      before_it s (omega arith) (no_region (whole_same s w) z)
  same_reason (bytes_left w z h) (whole_alike d e a) = absurd (e refl)
  same_reason (bytes_left w z h) (rest_alike a) =
      before_it a (omega arith)
      (bytes_left (whole_same (fewer (at + length_of end_kind) (omega (arith, end-length)) a) w) z (omega (arith, a.there)))

-- two scenes that agree up to and including the refused record get the same answer
pub behind : (scene other : List ℕ) (number offset : ℕ) → records scene ≡ refused_at number offset → RefusedAlike scene other number offset
    → records other ≡ refused_at number offset
behind scene other number offset e a =
    let s = stopped scene e in
    let q = same_reason scene other s.said s.at s.why_there a in
    ended_so other
    (at_refusal s.at s.said number offset (reached_same q.before s.reached)
    (decides other s.said s.at q.reason))

-- so reading it ends the same, both within the limit
pub read_behind : (scene other : List ℕ) (number offset : ℕ) → length scene ≤ most_bytes → length other ≤ most_bytes
    → read_scene scene ≡ refused_at number offset → RefusedAlike scene other number offset → read_scene other ≡ refused_at number offset
read_behind scene other number offset h k e a =
    within_limit other k ∙ behind scene other number offset (sym (within_limit scene h) ∙ e) a
