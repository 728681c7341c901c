-- Each record that is put is judged by the reader as what it was put for.
use mathlib.Core.Path.{◌≡◌, sym, ap, ◌∙◌}
use mathlib.Core.List.{List, [], ◌∷◌, ◌++◌, append_assoc}
use Prim.Native.Nat.{ℕ, ◌+◌, ◌≤◌, ◌<◌}
use native.Mathlib.Omega.{arith}
use lib.ListN.{length, length-append}
use lib.Seq.{get_or-append-add, get_or-append_seam}
use Rattle.region.specs.declared.Place.{Place}
use Rattle.std.proofs.Common.{Option, Some, None}
use Rattle.region.specs.Lookup.{identifier}
use Rattle.lists.specs.BigEndian.{big_endian, number_at}
use Rattle.lists.proofs.BigEndianLaws.{number_of_bytes}
use Rattle.matrix.specs.Square.{most_regions}
use Rattle.filing.specs.Said.{Said, regions}
use Rattle.filing.specs.Places.{place_of}
use Rattle.scene.specs.Format.{region_kind, statement_kind, end_kind, length_of, region_record, statement_record}
use Rattle.scene.specs.Record.{declares, states, ends, record_at}
use Rattle.scene.specs.Reached.{Whole}
use Rattle.scene.proofs.Reasons.{Looks, new_region, statement, end, decides}

-- a record that stands in a scene is whole
whole_in : (before tail : List ℕ) (kind : ℕ) → length_of kind ≤ length (kind ∷ tail) → Whole (before ++ (kind ∷ tail)) (length before) kind
whole_in before tail kind h =
    record { fits = omega (arith, length-append before (kind ∷ tail)); kind_is = get_or-append_seam before kind tail 0 }

-- a number stands where its bytes do
number_in : (scene before after : List ℕ) (x at : ℕ) → x < 4294967296 → scene ≡ before ++ (big_endian x ++ after) → length before ≡ at
    → number_at scene at ≡ x
number_in scene before after x at h e l =
    rw (e, ← l, ← append_assoc before (big_endian x) after) (number_of_bytes before after x h)

-- so looking it up is looking up that number
looks_in : (scene : List ℕ) (said : Said) (x at : ℕ) {found : Option Place} → number_at scene at ≡ x
    → place_of said (identifier x) ≡ found → Looks scene said at found
looks_in scene said x at e f =
    record { finds = ap (λ (y : ℕ). place_of said (identifier y)) e ∙ f }

module _ (before rest : List ℕ) (said : Said) where
  pub region_judged : (x : ℕ) → x < 4294967296 → (x ≡ 0 → ⊥) → place_of said (identifier x) ≡ None
      → regions said < most_regions
      → record_at (before ++ (region_record x ++ rest)) said (length before) ≡ declares x
  unfolding length_of
  region_judged x small some new few =
      let scene : List ℕ = before ++ (region_record x ++ rest) in
      let named : number_at scene (length before + 1) ≡ x =
      number_in scene (before ++ (region_kind ∷ [])) rest x (length before + 1) small
      (sym (append_assoc before (region_kind ∷ []) (big_endian x ++ rest)))
      (length-append before (region_kind ∷ [])) in
      decides scene said (length before)
      (new_region x (record {
        region = record { whole = whole_in before (big_endian x ++ rest) region_kind (omega arith); name_is = named; name_not_zero = some };
        new = looks_in scene said x (length before + 1) named new;
        room = few;
      }))

  pub statement_judged : (a b set : ℕ) (i j : Place) → a < 4294967296 → b < 4294967296 → (set ≡ 0 → ⊥)
      → place_of said (identifier a) ≡ Some i → place_of said (identifier b) ≡ Some j
      → record_at (before ++ (statement_record a b set ++ rest)) said (length before) ≡ states i j set
  unfolding length_of
  statement_judged a b set i j ha hb some found other =
      let scene : List ℕ = before ++ (statement_record a b set ++ rest) in
      let tail : List ℕ = big_endian a ++ (big_endian b ++ (set ∷ rest)) in
      let from : number_at scene (length before + 1) ≡ a =
      number_in scene (before ++ (statement_kind ∷ [])) (big_endian b ++ (set ∷ rest)) a (length before + 1) ha
      (sym (append_assoc before (statement_kind ∷ []) tail))
      (length-append before (statement_kind ∷ [])) in
      let to : number_at scene (length before + 5) ≡ b =
      number_in scene (before ++ (statement_kind ∷ big_endian a)) (set ∷ rest) b (length before + 5) hb
      (sym (append_assoc before (statement_kind ∷ big_endian a) (big_endian b ++ (set ∷ rest))))
      (length-append before (statement_kind ∷ big_endian a)) in
      decides scene said (length before)
      (statement i j set (record {
        whole = whole_in before tail statement_kind (omega arith);
        from_is = looks_in scene said a (length before + 1) from found;
        to_is = looks_in scene said b (length before + 5) to other;
        set_is = get_or-append-add before (statement_record a b set ++ rest) 9 0;
        set_not_empty = some;
      }))

pub end_judged : (before : List ℕ) (said : Said) → (regions said ≡ 0 → ⊥)
    → record_at (before ++ (end_kind ∷ [])) said (length before) ≡ ends
unfolding length_of
end_judged before said some =
    decides (before ++ (end_kind ∷ [])) said (length before)
    (end (record { whole = whole_in before [] end_kind (omega arith); some = some; last = length-append before (end_kind ∷ []) }))
