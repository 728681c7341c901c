-- Why a record is judged as it is: every judgement with what it takes, that these decide it, and that one of them is always met.
use mathlib.Core.Path.{◌≡◌, refl, sym, ap, subst, ◌∙◌}
use mathlib.Core.Bool.{Bool, true, false, cond}
use mathlib.Core.List.{List}
use Prim.Native.Nat.{ℕ, ◌+◌, ◌-◌, ◌≤◌, ◌<◌}
use native.Mathlib.Omega.{arith}
use lib.Dec.{eqb, ltb}
use lib.ListN.{length, get_or}
use borrow.Author.Tests.{lt-ltb, le-ltb, lt-leb, le-leb, eq-eqb, ne_eqb}
use Rattle.region.specs.Lookup.{identifier}
use Rattle.region.specs.declared.Place.{Place}
use Rattle.std.specs.Prelude.{Option, Some, None}
use Rattle.lists.proofs.Splits.{split_lt, split_eq}
use Rattle.lists.specs.BigEndian.{number_at}
use Rattle.matrix.specs.Square.{most_regions}
use Rattle.filing.specs.Said.{Said, naming, regions}
use Rattle.filing.specs.Places.{place_of}
use Rattle.filing.proofs.PlaceLaws.{place_named, by_place}
use Rattle.scene.specs.Format.{region_kind, statement_kind, end_kind, length_of}
use Rattle.scene.specs.Reached.{Whole, Region}
use Rattle.scene.specs.declared.Refusal.TheVariants.{NoRegion, CutShort, UnknownKind, IdentifierZero, DeclaredTwice}
use Rattle.scene.specs.declared.Refusal.TheVariants.{TooManyRegions, NotDeclared, EmptySet, BytesLeft}
use Rattle.scene.proofs.Numbered.{Numbered, numbered}
use Rattle.scene.specs.Record.{Judged, declares, states, ends, fails, judged_region, judged_statement, judged_end, record_at}

-- a record of a kind begins at the offset
pub record Begins (scene : List ℕ) (at kind : ℕ) : Type 0 where
  pub begins : at < length scene
  pub kind_is : get_or scene at 0 ≡ kind

-- which place an identifier that stands in the scene names
pub record Looks (scene : List ℕ) (said : Said) (at : ℕ) (found : Option Place) : Type 0 where
  pub finds : place_of said (identifier (number_at scene at)) ≡ found

-- a record that declares a region
pub record Declares (scene : List ℕ) (said : Said) (at name : ℕ) : Type 0 where
  pub region : Region scene at name
  pub new : Looks scene said (at + 1) None
  pub room : regions said < most_regions

-- a record that states a set
pub record States (scene : List ℕ) (said : Said) (at : ℕ) (a b : Place) (set : ℕ) : Type 0 where
  pub whole : Whole scene at statement_kind
  pub from_is : Looks scene said (at + 1) (Some a)
  pub to_is : Looks scene said (at + 5) (Some b)
  pub set_is : get_or scene (at + 9) 0 ≡ set
  pub set_not_empty : set ≡ 0 → ⊥

-- a record that ends the scene
pub record EndsScene (scene : List ℕ) (said : Said) (at : ℕ) : Type 0 where
  pub whole : Whole scene at end_kind
  pub some : regions said ≡ 0 → ⊥
  pub last : length scene ≡ at + 1

pub data Reason (scene : List ℕ) (said : Said) (at : ℕ) : Judged → Type 0 where
  no_byte : length scene ≤ at → Reason scene said at (fails 4 (length scene))
  unknown_kind : at < length scene → (get_or scene at 0 ≡ region_kind → ⊥) → (get_or scene at 0 ≡ statement_kind → ⊥)
      → (get_or scene at 0 ≡ end_kind → ⊥) → Reason scene said at (fails 5 at)
  region_cut : Begins scene at region_kind → length scene < at + length_of region_kind → Reason scene said at (fails 4 at)
  zero_declared : Whole scene at region_kind → number_at scene (at + 1) ≡ 0 → Reason scene said at (fails 6 at)
  declared_twice : (name : ℕ) (p : Place) → Region scene at name → Looks scene said (at + 1) (Some p)
      → Reason scene said at (fails 7 at)
  too_many : (name : ℕ) → Region scene at name → Looks scene said (at + 1) None → most_regions ≤ regions said
      → Reason scene said at (fails 8 at)
  new_region : (name : ℕ) → Declares scene said at name → Reason scene said at (declares name)
  statement_cut : Begins scene at statement_kind → length scene < at + length_of statement_kind → Reason scene said at (fails 4 at)
  from_undeclared : Whole scene at statement_kind → Looks scene said (at + 1) None → Reason scene said at (fails 9 at)
  to_undeclared : (a : Place) → Whole scene at statement_kind → Looks scene said (at + 1) (Some a)
      → Looks scene said (at + 5) None → Reason scene said at (fails 9 at)
  empty-set : (a b : Place) → Whole scene at statement_kind → Looks scene said (at + 1) (Some a)
      → Looks scene said (at + 5) (Some b) → get_or scene (at + 9) 0 ≡ 0 → Reason scene said at (fails 10 at)
  statement : (a b : Place) (set : ℕ) → States scene said at a b set → Reason scene said at (states a b set)
  no_region : Whole scene at end_kind → regions said ≡ 0 → Reason scene said at (fails 1 at)
  bytes_left : Whole scene at end_kind → (regions said ≡ 0 → ⊥) → at + 1 < length scene
      → Reason scene said at (fails 11 (at + 1))
  end : EndsScene scene said at → Reason scene said at ends

module _ (scene : List ℕ) (said : Said) (at : ℕ) where
  -- a record of each kind is judged by that kind's definition
  region_kind_lem : Begins scene at region_kind → record_at scene said at ≡ judged_region scene said at
  unfolding record_at
  region_kind_lem b = rw (lt-leb (length scene) at b.begins, eq-eqb (get_or scene at 0) 1 b.kind_is)

  statement_kind_lem : Begins scene at statement_kind → record_at scene said at ≡ judged_statement scene said at
  unfolding record_at
  statement_kind_lem b = rw (lt-leb (length scene) at b.begins, b.kind_is)

  end_kind_lem : Begins scene at end_kind → record_at scene said at ≡ judged_end scene said at
  unfolding record_at
  end_kind_lem b = rw (lt-leb (length scene) at b.begins, b.kind_is)

-- how long a record of each kind is
pub region_length : length_of region_kind ≡ 5
unfolding length_of
region_length = refl

pub statement-length : length_of statement_kind ≡ 10
unfolding length_of
statement-length = refl

pub end-length : length_of end_kind ≡ 1
unfolding length_of
end-length = refl

pub some-length : (kind : ℕ) → 0 < length_of kind
unfolding length_of
some-length kind = positive_either (eqb kind region_kind) (eqb kind statement_kind)
  where
    positive_either : (b d : Bool) → 0 < cond b 5 (cond d 10 1)
    positive_either true d = omega arith
    positive_either false true = omega arith
    positive_either false false = omega arith

whole-begins : {scene : List ℕ} {at kind : ℕ} → Whole scene at kind → Begins scene at kind
whole-begins {scene} {at} {kind} w = record { begins = omega (arith, w.fits, some-length kind); kind_is = w.kind_is }

module _ (scene : List ℕ) (said : Said) (at : ℕ) where
  long_enough_lem : (kind : ℕ) → Whole scene at kind → ltb (length scene - at) (length_of kind) ≡ false
  long_enough_lem kind w = le-ltb (length scene - at) (length_of kind) (omega (arith, w.fits))

  cut_short : (kind : ℕ) → Begins scene at kind → length scene < at + length_of kind → ltb (length scene - at) (length_of kind) ≡ true
  cut_short kind b h = lt-ltb (length scene - at) (length_of kind) (omega (arith, b.begins))

  is_region : {j : Judged} → Begins scene at region_kind → judged_region scene said at ≡ j → record_at scene said at ≡ j
  is_region b e = region_kind_lem scene said at b ∙ e

  is-statement : {j : Judged} → Begins scene at statement_kind → judged_statement scene said at ≡ j → record_at scene said at ≡ j
  is-statement b e = statement_kind_lem scene said at b ∙ e

  is-end : {j : Judged} → Begins scene at end_kind → judged_end scene said at ≡ j → record_at scene said at ≡ j
  is-end b e = end_kind_lem scene said at b ∙ e

  not_zero : (name : ℕ) → Region scene at name → eqb (number_at scene (at + 1)) 0 ≡ false
  not_zero name r = ap (λ (x : ℕ). eqb x 0) r.name_is ∙ ne_eqb name 0 r.name_not_zero

  -- a reason decides the judgement
  pub decides : {j : Judged} → Reason scene said at j → record_at scene said at ≡ j
  unfolding record_at judged_region judged_statement judged_end
  decides (no_byte h) = rw (le-leb (length scene) at h)
  decides (unknown_kind h r s e) =
      rw (lt-leb (length scene) at h, ne_eqb (get_or scene at 0) 1 r, ne_eqb (get_or scene at 0) 2 s, ne_eqb (get_or scene at 0) 3 e)
  decides (region_cut b h) = is_region b (rw (cut_short region_kind b h))
  decides (zero_declared w z) = is_region (whole-begins w) (rw (long_enough_lem region_kind w, eq-eqb (number_at scene (at + 1)) 0 z))
  decides (declared_twice name p r l) =
      is_region (whole-begins r.whole) (rw (long_enough_lem region_kind r.whole, not_zero name r, l.finds))
  decides (too_many name r l h) =
      is_region (whole-begins r.whole)
      (rw (long_enough_lem region_kind r.whole, not_zero name r, l.finds, le-leb most_regions (regions said) h))
  decides (new_region name d) =
      let r = d.region in
      is_region (whole-begins r.whole)
      (rw (long_enough_lem region_kind r.whole, not_zero name r, d.new.finds, lt-leb most_regions (regions said) d.room)
      (ap declares r.name_is))
  decides (statement_cut b h) = is-statement b (rw (cut_short statement_kind b h))
  decides (from_undeclared w f) = is-statement (whole-begins w) (rw (long_enough_lem statement_kind w, f.finds))
  decides (to_undeclared a w f t) = is-statement (whole-begins w) (rw (long_enough_lem statement_kind w, f.finds, t.finds))
  decides (empty-set a b w f t z) =
      is-statement (whole-begins w)
      (rw (long_enough_lem statement_kind w, f.finds, t.finds, eq-eqb (get_or scene (at + 9) 0) 0 z))
  decides (statement a b set s) =
      is-statement (whole-begins s.whole)
      (rw (long_enough_lem statement_kind s.whole, s.from_is.finds, s.to_is.finds, s.set_is, ne_eqb set 0 s.set_not_empty))
  decides (no_region w z) = is-end (whole-begins w) (rw (eq-eqb (regions said) 0 z))
  decides (bytes_left w z h) =
      is-end (whole-begins w) (rw (ne_eqb (regions said) 0 z, lt-ltb (at + 1) (length scene) h))
  decides (end d) =
      is-end (whole-begins d.whole)
      (rw (ne_eqb (regions said) 0 d.some, le-ltb (at + 1) (length scene) (omega (arith, d.last))))

  met : {j : Judged} → Reason scene said at j → Reason scene said at (record_at scene said at)
  met r = subst (λ (k : Judged). Reason scene said at k) (sym (decides r)) r

  -- an identifier that stands in the scene names a place, or none
  pub by_lookup : {C : Type 0} (from : ℕ) → ((p : Place) → Looks scene said from (Some p) → C) → (Looks scene said from None → C) → C
  by_lookup from f g =
      by_place said (identifier (number_at scene from)) (λ p e. f p (record { finds = e })) (λ e. g (record { finds = e }))

  region_why : Begins scene at region_kind → Reason scene said at (record_at scene said at)
  region_why b =
      split_lt (length scene) (at + length_of region_kind) (λ h. met (region_cut b h))
      (λ h.
      let w : Whole scene at region_kind = record { fits = h; kind_is = b.kind_is } in
      split_eq (number_at scene (at + 1)) 0 (λ z. met (zero_declared w z))
      (λ z.
      let name : ℕ = number_at scene (at + 1) in
      let r : Region scene at name = record { whole = w; name_is = refl; name_not_zero = z } in
      by_lookup (at + 1) (λ p l. met (declared_twice name p r l))
      (λ l.
      split_lt (regions said) most_regions (λ k. met (new_region name (record { region = r; new = l; room = k })))
      (λ k. met (too_many name r l k)))))

  statement_why : Begins scene at statement_kind → Reason scene said at (record_at scene said at)
  statement_why b =
      split_lt (length scene) (at + length_of statement_kind) (λ h. met (statement_cut b h))
      (λ h.
      let w : Whole scene at statement_kind = record { fits = h; kind_is = b.kind_is } in
      by_lookup (at + 1)
      (λ p f.
      by_lookup (at + 5)
      (λ q t.
      split_eq (get_or scene (at + 9) 0) 0 (λ z. met (empty-set p q w f t z))
      (λ z. met (statement p q (get_or scene (at + 9) 0) (record { whole = w; from_is = f; to_is = t; set_is = refl; set_not_empty = z }))))
      (λ t. met (to_undeclared p w f t)))
      (λ f. met (from_undeclared w f)))

  end_why : Begins scene at end_kind → Reason scene said at (record_at scene said at)
  end_why b =
      let w : Whole scene at end_kind = record { fits = omega (arith, b.begins, end-length); kind_is = b.kind_is } in
      split_eq (regions said) 0 (λ z. met (no_region w z))
      (λ z.
      split_lt (at + 1) (length scene) (λ h. met (bytes_left w z h))
      (λ h. met (end (record { whole = w; some = z; last = omega (arith, b.begins) }))))

  -- one of the reasons is always met
  pub why : Reason scene said at (record_at scene said at)
  why =
      split_lt at (length scene)
      (λ h.
      split_eq (get_or scene at 0) region_kind (λ k. region_why (record { begins = h; kind_is = k }))
      (λ r.
      split_eq (get_or scene at 0) statement_kind (λ k. statement_why (record { begins = h; kind_is = k }))
      (λ s.
      split_eq (get_or scene at 0) end_kind (λ k. end_why (record { begins = h; kind_is = k }))
      (λ e. met (unknown_kind h r s e)))))
      (λ h. met (no_byte h))

  pub because : {j : Judged} → record_at scene said at ≡ j → Reason scene said at j
  because {j} e = subst (λ (k : Judged). Reason scene said at k) e why

  -- a record that is judged to declare a region, to state a set or to end the scene is one
  pub declares_why : {name : ℕ} → record_at scene said at ≡ declares name → Declares scene said at name
  declares_why {name} e = new (because e)
    where
      new : {name : ℕ} → Reason scene said at (declares name) → Declares scene said at name
      new (new_region name d) = d

  pub states_why : {a b : Place} {set : ℕ} → record_at scene said at ≡ states a b set → States scene said at a b set
  states_why {a} {b} {set} e = stated (because e)
    where
      stated : {a b : Place} {set : ℕ} → Reason scene said at (states a b set) → States scene said at a b set
      stated (statement a b set s) = s

  pub ends_why : record_at scene said at ≡ ends → EndsScene scene said at
  ends_why e = ended (because e)
    where
      ended : Reason scene said at ends → EndsScene scene said at
      ended (end d) = d

-- the numbers of refused records
pub refused_numbered : {scene : List ℕ} {said : Said} {at number offset : ℕ} → Reason scene said at (fails number offset)
    → Numbered number
refused_numbered (no_byte h) = numbered CutShort
refused_numbered (unknown_kind h r s e) = numbered UnknownKind
refused_numbered (region_cut b h) = numbered CutShort
refused_numbered (zero_declared w z) = numbered IdentifierZero
refused_numbered (declared_twice name p r l) = numbered DeclaredTwice
refused_numbered (too_many name r l h) = numbered TooManyRegions
refused_numbered (statement_cut b h) = numbered CutShort
refused_numbered (from_undeclared w f) = numbered NotDeclared
refused_numbered (to_undeclared a w f t) = numbered NotDeclared
refused_numbered (empty-set a b w f t z) = numbered EmptySet
refused_numbered (no_region w z) = numbered NoRegion
refused_numbered (bytes_left w z h) = numbered BytesLeft

-- a record is judged by the regions declared, whatever was stated
pub record_named : (scene : List ℕ) (said : Said) (at : ℕ) → record_at scene (naming said.identifiers) at ≡ record_at scene said at
unfolding record_at judged_region judged_statement judged_end
record_named scene said at = simp (place_named said)

-- a refused record is named at a byte of the scene, or at its length
pub named_within : {scene : List ℕ} {said : Said} {at number offset : ℕ} → at ≤ length scene → Reason scene said at (fails number offset)
    → offset ≤ length scene
named_within h (no_byte l) = omega arith
named_within h (unknown_kind l r s e) = h
named_within h (region_cut b l) = h
named_within h (zero_declared w z) = h
named_within h (declared_twice name p r l) = h
named_within h (too_many name r l m) = h
named_within h (statement_cut b l) = h
named_within h (from_undeclared w f) = h
named_within h (to_undeclared a w f t) = h
named_within h (empty-set a b w f t z) = h
named_within h (no_region w z) = h
named_within h (bytes_left w z l) = omega arith
