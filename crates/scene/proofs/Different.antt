-- The identifiers of a scene are pairwise different, none is 0 and there are at most 64; and an identifier that is declared twice
-- is always refused, with 7 at the second record.
use mathlib.Core.Path.{◌≡◌, sym, ◌∙◌}
use mathlib.Core.List.{List, [], ◌∷◌, ◌++◌}
use Prim.Native.Nat.{ℕ, ◌+◌, ◌≤◌, ◌<◌}
use native.Mathlib.Omega.{arith}
use lib.ListN.{length, get_or, length-append, get_or-append}
use lib.Seq.{get_or_at}
use Rattle.region.specs.Lookup.{identifier}
use Rattle.lists.proofs.Splits.{split_lt}
use Rattle.filing.proofs.PlaceLaws.{place_nothing}
use Rattle.lists.specs.BigEndian.{number_at}
use Rattle.matrix.specs.Square.{most_regions}
use Rattle.filing.specs.Said.{Said, regions}
use Rattle.scene.specs.Reading.{accepted_said, refused_at, records, read_scene}
use Rattle.scene.specs.Reached.{Reached, start, region, statement, Region}
use Rattle.scene.specs.Different.{Different}
use Rattle.scene.proofs.Reasons.{by_lookup, declared_twice, decides, declares_why, ends_why}
use Rattle.scene.proofs.Reached.{at_refusal, ended_so}
use Rattle.scene.proofs.Endings.{accepted-records, finished}

-- one identifier more
module _ (l : List ℕ) (name : ℕ) where
  length_more : length (l ++ (name ∷ [])) ≡ length l + 1
  length_more = length-append l (name ∷ [])

  earlier : (i : ℕ) → i < length l → get_or (l ++ (name ∷ [])) i 0 ≡ get_or l i 0
  earlier i h = get_or-append l (name ∷ []) 0 i h

  latest : (i : ℕ) → length l ≤ i → i < length (l ++ (name ∷ [])) → get_or (l ++ (name ∷ [])) i 0 ≡ name
  latest i h k = get_or_at l name [] 0 i (omega (arith, length_more))

  different_more : Different l → (name ≡ 0 → ⊥) → ((k : ℕ) → k < length l → get_or l k 0 ≡ name → ⊥) → length l < most_regions
      → Different (l ++ (name ∷ []))
  different_more d z new h =
      record {
        apart = λ i j lt k e.
            split_lt j (length l) (λ m. d.apart i j lt m (sym (earlier i (omega arith)) ∙ e ∙ earlier j m))
            (λ m. new i (omega (arith, length_more)) (sym (earlier i (omega (arith, length_more))) ∙ e ∙ latest j m k));
        none_zero = λ i k e.
            split_lt i (length l) (λ m. d.none_zero i m (sym (earlier i m) ∙ e)) (λ m. z (sym (latest i m k) ∙ e));
        few = omega (arith, length_more);
      }

reached_different : {scene : List ℕ} {at : ℕ} {said : Said} → Reached scene at said → Different said.identifiers
reached_different start =
    record { apart = λ i j l k. absurd (omega arith); none_zero = λ i k. absurd (omega arith); few = omega arith }
reached_different {scene} (region {at} {said} name r e) =
    let d = declares_why scene said at e in
    different_more said.identifiers name (reached_different r) d.region.name_not_zero
    (λ k l same.
    place_nothing said (identifier (number_at scene (at + 1))) d.new.finds k l
    (same ∙ sym d.region.name_is))
    d.room
reached_different (statement a b set r e) = reached_different r

-- a region record with an identifier that was declared before it
pub twice_refused : {scene : List ℕ} {at : ℕ} {said : Said} {name : ℕ} → Reached scene at said → Region scene at name
    → (k : ℕ) → k < regions said → get_or said.identifiers k 0 ≡ name → records scene ≡ refused_at 7 at
twice_refused {scene} {at} {said} {name} r g k l e =
    by_lookup scene said at (at + 1)
    (λ p f. ended_so scene (at_refusal at said 7 at r (decides scene said at (declared_twice name p g f))))
    (λ f.
    absurd
    (place_nothing said (identifier (number_at scene (at + 1))) f.finds k l
    (e ∙ sym g.name_is)))

-- so no two regions of an accepted scene share an identifier
pub accepted_different : (scene : List ℕ) {said : Said} → read_scene scene ≡ accepted_said said → Different said.identifiers
accepted_different scene e = reached_different (finished scene (accepted-records scene e)).reached

-- and it has one region at least
pub accepted-some : (scene : List ℕ) {said : Said} → read_scene scene ≡ accepted_said said → 0 < regions said
accepted-some scene {said} e =
    let f = finished scene (accepted-records scene e) in
    let d = ends_why scene said f.at f.end-there in
    split_lt 0 (regions said) (λ l. l) (λ l. absurd (d.some (omega arith)))
