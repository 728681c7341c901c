-- What looking an identifier up says of the entries, and what the entries say of it.
use Rattle.std.proofs.Common.{◌≡◌, refl, sym, ap, ◌∙◌, arith, Bool, true, false, List, length, get_or, take}
use Rattle.std.proofs.Common.{ℕ, ◌≤◌, ◌<◌, min, Option, Some, None}
use Rattle.std.specs.Prelude.{option_map, position}
use Rattle.std.specs.List.{position_or_len}
use Rattle.std.proofs.lemmas.List.{length-take, get_or-take}
use Rattle.std.proofs.lemmas.List.Sums.{position_or_len_is, fails_before_first}
use Rattle.std.proofs.lemmas.List.Quantifiers.{position-Some}
use Rattle.std.proofs.lemmas.Option.{none-some}
use borrow.Author.Tests.{lt-ltb, le-ltb, eqb-true, eqb-false, ne_eqb, eq-eqb}
use lib.Dec.{eqb}
use Rattle.region.specs.Lookup.{place, identifier, lookup_of}
use Rattle.region.specs.declared.Identifier.{Identifier}
use Rattle.region.specs.declared.Place.{Place}
use Rattle.lists.proofs.Splits.{split_lt}

-- what the place that is found is
pub record Holds (identifiers : List ℕ) (count p wanted : ℕ) : Type 0 where
  pub counted : p < count
  pub inside : p < length identifiers
  pub entry : get_or identifiers p 0 ≡ wanted
  pub first : (k : ℕ) → k < p → get_or identifiers k 0 ≡ wanted → ⊥

-- the number of a place that is found
abbrev number : Option Place → Option ℕ
number found = option_map (λ (p : Place). p.0) found

number-place : (found : Option ℕ) → number (option_map place found) ≡ found
number-place None = refl
number-place (Some p) = refl

module _ (identifiers : List ℕ) (count : ℕ) (wanted : Identifier) where
  abbrev holds : ℕ → Bool
  holds entry = eqb entry wanted.0

  -- the entries that count
  abbrev front : List ℕ
  front = take count identifiers

  -- no entry before p holds the identifier
  abbrev Passed : ℕ → Type 0
  Passed p = (k : ℕ) → k < p → holds (get_or identifiers k 0) ≡ false

  -- a search that has passed the first p entries ends at p where that is the last, or its entry holds the identifier
  searched : (p : ℕ) → p ≤ length front → Passed p → (p < length front → holds (get_or identifiers p 0) ≡ true)
      → position_or_len holds front ≡ p
  searched p l before here =
      let long = length-take count identifiers in
      position_or_len_is holds front p 0 l (λ k u. ap holds (get_or-take count identifiers k 0 (omega arith)) ∙ before k u)
      (λ u. ap holds (get_or-take count identifiers p 0 (omega arith)) ∙ here u)

  -- a search that has passed the first p entries finds the identifier at p
  pub finds_here : (p : ℕ) → p < count → p < length identifiers → Passed p → get_or identifiers p 0 ≡ wanted.0
      → Some (place p) ≡ lookup_of identifiers count wanted
  unfolding lookup_of
  finds_here p l u before e =
      let long = length-take count identifiers in
      rw (searched p (omega arith) before (λ _. eq-eqb (get_or identifiers p 0) wanted.0 e), lt-ltb p (length front) (omega arith)) refl

  -- and where these are all, nothing
  pub finds_nothing : (p : ℕ) → p ≡ min count (length identifiers) → Passed p → None ≡ lookup_of identifiers count wanted
  unfolding lookup_of
  finds_nothing p e before =
      let long = length-take count identifiers in
      rw (searched p (omega arith) before (λ l. absurd (omega arith)), le-ltb p (length front) (omega arith)) refl

  -- what is found is the first entry that holds the identifier
  pub lookup_found : (p : ℕ) → lookup_of identifiers count wanted ≡ Some (place p) → Holds identifiers count p wanted.0
  unfolding lookup_of
  lookup_found p e =
      let long = length-take count identifiers in
      let found = position-Some holds front p 0 (sym (number-place (position holds front)) ∙ ap number e) in
      record {
        counted = omega (arith, found.0);
        inside = omega (arith, found.0);
        entry = sym (get_or-take count identifiers p 0 (omega (arith, found.0))) ∙ eqb-true (get_or front p 0) wanted.0 found.1;
        first = λ k u. eqb-false (get_or identifiers k 0) wanted.0
            (ap holds (sym (get_or-take count identifiers k 0 (omega (arith, found.0)))) ∙ found.2 k u);
      }

  -- where nothing is found, no declared entry holds the identifier
  pub lookup_nothing : lookup_of identifiers count wanted ≡ None
      → (k : ℕ) → k < count → k < length identifiers → get_or identifiers k 0 ≡ wanted.0 → ⊥
  unfolding lookup_of
  lookup_nothing e k l u =
      let long = length-take count identifiers in
      let q : ℕ = position_or_len holds front in
      split_lt q (length front)
      (λ v. let none : None ≡ Some (place q) = sym e ∙ rw (lt-ltb q (length front) v) refl in absurd (none-some _ none))
      (λ v. eqb-false (get_or identifiers k 0) wanted.0
      (ap holds (sym (get_or-take count identifiers k 0 l)) ∙ fails_before_first holds front k 0 (omega arith)))

-- an entry is found at its own place where no entry before it is equal
pub lookup_of_entry : (identifiers : List ℕ) (count p : ℕ) → p < count → p < length identifiers
    → ((k : ℕ) → k < p → get_or identifiers k 0 ≡ get_or identifiers p 0 → ⊥)
    → lookup_of identifiers count (identifier (get_or identifiers p 0)) ≡ Some (place p)
lookup_of_entry identifiers count p l u before =
    sym (finds_here identifiers count (identifier (get_or identifiers p 0)) p l u
    (λ k v. ne_eqb (get_or identifiers k 0) (get_or identifiers p 0) (before k v)) refl)
