-- Which identifiers are bad: what the place that one names among those before it says, as the code finds it; and that identifiers
-- of which none is bad are those that are pairwise different and none of them 0.
use mathlib.Core.Path.{◌≡◌, refl, sym, ap, ◌∙◌}
use mathlib.Core.Bool.{Bool, true, false, ◌||◌, true≢false}
use mathlib.Core.List.{List}
use Prim.Native.Nat.{ℕ, ◌≤◌, ◌<◌}
use native.Mathlib.Omega.{arith}
use borrow.Author.Tests.{eq-eqb, ne_eqb, eqb-false}
use lib.ListN.{length, get_or, take}
use lib.Seq.{length-take-le, get_or-take}
use Rattle.std.specs.Prelude.{Option, Some, None}
use Rattle.lists.proofs.Splits.{split_lt}
use Rattle.lists.proofs.LeastLaws.{Least, least-is}
use Rattle.region.specs.Lookup.{identifier}
use Rattle.region.specs.declared.Identifier.{Identifier}
use Rattle.region.specs.declared.Place.{Place}
use Rattle.matrix.specs.Square.{most_regions}
use Rattle.filing.specs.Said.{Said, naming}
use Rattle.filing.specs.Places.{place_of, is_found}
use Rattle.filing.proofs.PlaceLaws.{by_place, place_nothing, place_new}
use Rattle.scene.specs.Different.{Different}
use Rattle.writer.specs.Writing.{is_zero, is_repeated, first_bad}

-- ---- as the code finds it

module _ (identifiers : List ℕ) (p : ℕ) where
  abbrev bad : Bool
  bad = is_zero identifiers p || is_repeated identifiers p

  -- 0 is bad
  pub zero_bad : (one : Identifier) → one.0 ≡ get_or identifiers p 0 → one.0 ≡ 0 → true ≡ bad
  zero_bad one e z = rw (eq-eqb (get_or identifiers p 0) 0 (sym e ∙ z))

  module _ (one : Identifier) (named : one.0 ≡ get_or identifiers p 0) (some : one.0 ≡ 0 → ⊥) (found : Option Place)
      (finds : found ≡ place_of (naming (take p identifiers)) one) where
    repeated_is : (is_found found) ≡ bad
    repeated_is =
        rw (ne_eqb (get_or identifiers p 0) 0 (λ z. some (named ∙ z)), finds)
        (ap (λ (x : ℕ). is_found (place_of (naming (take p identifiers)) (identifier x))) named)

    -- one that names an earlier place is a repeated one
    pub found_bad : (q : Place) → found ≡ Some q → true ≡ bad
    found_bad q e = sym (ap is_found e) ∙ repeated_is

    -- and one that names none is good
    pub new_good : found ≡ None → false ≡ bad
    new_good e = sym (ap is_found e) ∙ repeated_is

-- ---- none is bad

neither_left : (a b : Bool) → a || b ≡ false → a ≡ false
neither_left true b e = e
neither_left false b e = refl

neither_right : (a b : Bool) → a || b ≡ false → b ≡ false
neither_right true b e = absurd (true≢false e)
neither_right false b e = e

neither : (a b : Bool) → a ≡ false → b ≡ false → a || b ≡ false
neither a b e f = rw (e, f)

module _ (identifiers : List ℕ) (p : ℕ) (inside : p < length identifiers) where
  abbrev earlier : Said
  earlier = naming (take p identifiers)

  abbrev own : Identifier
  own = identifier (get_or identifiers p 0)

  -- not repeated means that no place before holds it
  not_repeated : is_repeated identifiers p ≡ false → (k : ℕ) → k < p → get_or identifiers k 0 ≡ get_or identifiers p 0 → ⊥
  not_repeated e k l same =
      by_place earlier own (λ q f. true≢false (sym (ap is_found f) ∙ e))
      (λ f. place_nothing earlier own f k (rw (length-take-le p identifiers (omega arith)) l) (get_or-take p identifiers k 0 l ∙ same))

  -- and the other way
  none_before : ((k : ℕ) → k < p → get_or identifiers k 0 ≡ get_or identifiers p 0 → ⊥) → is_repeated identifiers p ≡ false
  none_before h =
      ap is_found
      (place_new earlier own
      (λ k l e.
      let before : k < p = rw (length-take-le p identifiers (omega arith)) at l in
      h k before (sym (get_or-take p identifiers k 0 before) ∙ e)))

module _ (n : ℕ) (identifiers : List ℕ) (regions : length identifiers ≡ n) where
  first_bad_lem : Least n (bad identifiers) (first_bad n identifiers)
  unfolding first_bad
  first_bad_lem = least-is n (bad identifiers)

  -- no two identifiers are equal and none is 0
  pub good-names : n ≤ most_regions → n ≤ first_bad n identifiers → Different identifiers
  good-names few good =
      let clear : (p : ℕ) → p < length identifiers → bad identifiers p ≡ false = λ p l. first_bad_lem.before p (omega arith) in
      record {
        apart = λ k p u l. not_repeated identifiers p l (neither_right (is_zero identifiers p) (is_repeated identifiers p) (clear p l)) k u;
        none_zero = λ p l. eqb-false (get_or identifiers p 0) 0 (neither_left (is_zero identifiers p) (is_repeated identifiers p) (clear p l));
        few = omega arith;
      }

  -- and the other way
  pub names-good : Different identifiers → n ≤ first_bad n identifiers
  names-good different =
      let p : ℕ = first_bad n identifiers in
      split_lt p n
      (λ l.
      let inside : p < length identifiers = omega arith in
      absurd (true≢false (sym (first_bad_lem.found l)
      ∙ neither (is_zero identifiers p) (is_repeated identifiers p) (ne_eqb (get_or identifiers p 0) 0 (different.none_zero p inside))
      (none_before identifiers p inside (λ k u. different.apart k p u inside)))))
      (λ l. l)
