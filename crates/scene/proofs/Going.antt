-- The loop over the records: the areas hold what the records before the offset have said, and each record keeps it so.
use mathlib.Core.Path.{◌≡◌, refl, sym, ap, ◌∙◌, subst}
use mathlib.Core.List.{List, [], ◌∷◌}
use Prim.Native.Nat.{ℕ, ◌+◌, ◌*◌, ◌≤◌, ◌<◌}
use native.Mathlib.Omega.{arith}
use lib.ListN.{length, take, set, length-append}
use Rattle.std.specs.Prelude.{Result, Ok, Err}
use Rattle.region.specs.declared.Identifier.{Identifier}
use Rattle.region.specs.declared.Place.{Place}
use Rattle.relation.specs.Sets.{universal}
use Rattle.relation.specs.declared.RelationSet.{RelationSet}
use Rattle.matrix.specs.Square.{most_regions}
use Rattle.filing.specs.Said.{Said, regions, naming, silent, declared, statement as made, stated}
use Rattle.filing.specs.Areas.{Areas, holding, Lent, started, filed_in, marked_in}
use Rattle.filing.proofs.PlaceLaws.{place_found}
use Rattle.filing.proofs.Held.{Held, held_begins, held_lent, held_front, held_declared, held_stated}
use Rattle.scene.specs.Record.{record_at}
use Rattle.scene.specs.Reading.{accepted_said, refused_at, records}
use Rattle.scene.specs.Numbers.{number_of}
use Rattle.scene.specs.Reads.{starting_cell}
use Rattle.scene.specs.Reached.{Reached, start, region, statement}
use Rattle.scene.specs.Inner.{judged_of}
use Rattle.scene.specs.declared.record.Record.{Record}
use Rattle.scene.specs.declared.record.Refused.{Refused}
use Rattle.scene.specs.declared.record.Record.TheVariants as recorded
use Rattle.scene.proofs.Reasons.{Declares, States, region_length, statement-length, declares_why, states_why, record_named}
use Rattle.scene.proofs.Reached.{at_end, at_refusal, ended_so, reached_far}

-- the loop's invariant
pub record Going (scene : List ℕ) (areas : Areas) (at count statements : ℕ) : Type 0 where
  pub said : Said
  pub reached : Reached scene at said
  pub counted : count ≡ regions said
  pub numbered : statements ≡ length said.statements
  pub held : Held starting_cell said areas

-- nothing is said yet
pub going_begins : {before areas : Areas} (scene : List ℕ) → Lent before → areas ≡ started universal before → Going scene areas 0 0 0
going_begins scene lent e = record {
  said = silent;
  reached = start;
  counted = refl;
  numbered = refl;
  held = held_begins universal lent e;
}

module _ {scene : List ℕ} {areas : Areas} {at count statements : ℕ} (w : Going scene areas at count statements) where
  pub going_count : count ≤ most_regions
  going_count = omega (arith, w.counted, w.held.few)

  -- a statement has ten bytes
  pub going_passed : 10 * statements ≤ at
  going_passed = omega (arith, reached_far scene w.reached, w.numbered)

  pub going_lent : Lent areas
  going_lent = held_lent w.held

  -- the entries that the code judges by are the identifiers said so far, so its judgement is theirs
  module _ {entries : List ℕ} (same : entries ≡ areas.identifiers) {r : Result Record Refused}
      (judged : judged_of r ≡ record_at scene (naming (take count entries)) at) where
    known_as : {q : Result Record Refused} → r ≡ q → record_at scene w.said at ≡ judged_of q
    known_as d =
        let front : take count entries ≡ w.said.identifiers = rw (same, w.counted) (held_front w.held) in
        sym (sym (ap judged_of d) ∙ judged ∙ ap (λ (l : List ℕ). record_at scene (naming l) at) front ∙ record_named scene w.said at)

    -- a region record
    module _ {name : Identifier} (d : r ≡ Ok (recorded.Region name)) where
      declares_so : Declares scene w.said at name.0
      declares_so = declares_why scene w.said at (known_as d)

      pub region_fits : at + 5 ≤ length scene
      region_fits = omega (arith, declares_so.region.whole.fits, region_length)

      pub going_region : Going scene (holding (set areas.identifiers count name.0) areas.cells areas.marks) (at + 5) (count + 1) statements
      going_region =
          record {
            said = declared w.said name.0;
            reached = subst (λ (n : ℕ). Reached scene (at + n) (declared w.said name.0)) region_length
                (region name.0 w.reached (known_as d));
            counted = omega (arith, length-append w.said.identifiers (name.0 ∷ []), w.counted);
            numbered = w.numbered;
            held = rw w.counted (held_declared w.held name.0 declares_so.room);
          }

    -- a statement record
    module _ {a b : Place} {added : RelationSet} (d : r ≡ Ok (recorded.Statement a b added)) where
      states_so : States scene w.said at a b added.0
      states_so = states_why scene w.said at (known_as d)

      from_in : a.0 < most_regions
      from_in = omega (arith, w.held.few, (place_found w.said _ a states_so.from_is.finds).inside)

      to_in : b.0 < most_regions
      to_in = omega (arith, w.held.few, (place_found w.said _ b states_so.to_is.finds).inside)

      pub statement-fits : at + 10 ≤ length scene
      statement-fits = omega (arith, states_so.whole.fits, statement-length)

      pub going_statement : Going scene (holding areas.identifiers (filed_in areas.cells (made a b added.0))
          (marked_in areas.cells areas.marks (made a b added.0) (statements + 1))) (at + 10) count (statements + 1)
      going_statement =
          record {
            said = stated w.said a b added.0;
            reached = subst (λ (n : ℕ). Reached scene (at + n) (stated w.said a b added.0)) statement-length
                (statement a b added.0 w.reached (known_as d));
            counted = w.counted;
            numbered = omega (arith, w.numbered);
            held = held_stated w.held a b added.0 (statements + 1) from_in to_in (omega (arith, w.numbered));
          }

    -- the end, and a refusal
    pub going_ends : r ≡ Ok recorded.End → records scene ≡ accepted_said w.said
    going_ends d = ended_so scene (at_end at w.said w.reached (known_as d))

    pub going_refused : {refused : Refused} → r ≡ Err refused → records scene ≡ refused_at (number_of refused.refusal) refused.offset
    going_refused {refused} d =
        ended_so scene (at_refusal at w.said (number_of refused.refusal) refused.offset w.reached (known_as d))
