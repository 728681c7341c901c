-- Every statement of an accepted scene is filed under the regions that it names, and none is lost: cell (i, j) is the universal set
-- intersected with the sets of exactly the statements from identifier i to identifier j.
use mathlib.Core.Path.{◌≡◌, refl, sym, ap, ◌∙◌, subst}
use mathlib.Core.Bool.{Bool, true, false, cond, ◌&&◌}
use mathlib.Core.List.{List, [], ◌∷◌, ◌++◌, append_assoc, append-nil}
use Prim.Native.Nat.{ℕ, zero, suc, ◌+◌, ◌≤◌, ◌<◌}
use native.Mathlib.Omega.{arith}
use lib.Dec.{eqb}
use lib.ListN.{length, get_or, length-append, get_or-append}
use borrow.Author.Tests.{eq-eqb, ne_eqb}
use Rattle.region.specs.Lookup.{identifier}
use Rattle.region.specs.declared.Place.{Place}
use Rattle.lists.proofs.Splits.{split_eq, split_lt}
use Rattle.filing.proofs.PlaceLaws.{place_found}
use Rattle.filing.proofs.StatedLaws.{stated-none, stated_more}
use Rattle.relation.specs.Sets.{universal, intersect}
use Rattle.relation.proofs.Within.{intersect_comm, intersect_assoc}
use Rattle.lists.specs.BigEndian.{number_at}
use Rattle.scene.specs.Format.{region_kind, statement_kind, end_kind, length_of}
use Rattle.filing.specs.Said.{Statement, Said, regions, silent, declared, statement, stated}
use Rattle.filing.specs.Stated.{stated_cell}
use Rattle.scene.specs.Record.{Judged, declares, states, ends, fails, record_at}
use Rattle.scene.specs.Reading.{accepted_said, follows, read_from, read_scene}
use Rattle.scene.specs.Reads.{starting_cell}
use Rattle.scene.specs.Different.{Different}
use Rattle.scene.specs.Spoken.{Spoken, spoken_at, spoken_from, spoken, among}
use Rattle.scene.proofs.Reasons.{States, declares_why, states_why, ends_why}
use Rattle.scene.proofs.Endings.{accepted-records}
use Rattle.scene.proofs.Different.{accepted_different}

-- ---- places and identifiers

-- later records add identifiers behind those that are there
record Extends (said final : Said) : Type 0 where
  long : regions said ≤ regions final
  same : (p : ℕ) → p < regions said → get_or final.identifiers p 0 ≡ get_or said.identifiers p 0

extends_declared : (said final : Said) (name : ℕ) → Extends (declared said name) final → Extends said final
extends_declared said final name x =
    let one : regions (declared said name) ≡ regions said + 1 = length-append said.identifiers (name ∷ []) in
    record {
      long = omega (arith, x.long, one);
      same = λ p h. x.same p (omega (arith, one)) ∙ get_or-append said.identifiers (name ∷ []) 0 p h;
    }

extends_from : (scene : List ℕ) (more at : ℕ) (said final : Said) → read_from more scene at said ≡ accepted_said final → Extends said final
unfolding read_from
extends_from scene zero at said final e = let z : ◌≡◌ {A = ℕ} 0 1 = cc in absurd (omega arith)
extends_from scene (suc more) at said final e =
    by_record (record_at scene said at) e (λ next then q. extends_from scene more next then final q)
  where
    by_record : (j : Judged) → follows (read_from more scene) at said j ≡ accepted_said final
        → ((next : ℕ) (then : Said) → read_from more scene next then ≡ accepted_said final → Extends then final) → Extends said final
    by_record (declares name) e later = extends_declared said final name (later (at + length_of region_kind) (declared said name) e)
    by_record (states a b set) e later =
        let x = later (at + length_of statement_kind) (stated said a b set) e in record { long = x.long; same = x.same }
    by_record ends e later = let q : said ≡ final = cc in rw q (record { long = omega arith; same = λ p h. refl })
    by_record (fails number offset) e later = let z : ◌≡◌ {A = ℕ} 0 1 = cc in absurd (omega arith)

-- a place is i where its identifier is that of i
same_test : (l : List ℕ) (p i name : ℕ) → Different l → p < length l → i < length l → get_or l p 0 ≡ name → eqb p i ≡ eqb name (get_or l i 0)
same_test l p i name d hp hi e =
    split_eq p i
    (λ q. eq-eqb p i q ∙ sym (eq-eqb name (get_or l i 0) (sym e ∙ ap (λ (x : ℕ). get_or l x 0) q)))
    (λ q.
    ne_eqb p i q
    ∙ sym (ne_eqb name (get_or l i 0)
    (λ s.
    split_lt p i (λ h. d.apart p i h hi (e ∙ s))
    (λ h. d.apart i p (lt_of p i h q) hp (sym (e ∙ s))))))
  where
    lt_of : (p i : ℕ) → i ≤ p → (p ≡ i → ⊥) → i < p
    lt_of p i h q = split_lt i p (λ l. l) (λ l. absurd (q (omega arith)))

-- ---- the statements by place are those of the file by identifier

-- the statements from a record on, by its kind
module _ (scene : List ℕ) (more at : ℕ) where
  spoken_region : get_or scene at 0 ≡ region_kind → spoken_from (suc more) scene at ≡ spoken_from more scene (at + length_of region_kind)
  unfolding spoken_from
  spoken_region k = rw k

  spoken-statement : get_or scene at 0 ≡ statement_kind
      → spoken_from (suc more) scene at ≡ spoken_at scene at ∷ spoken_from more scene (at + length_of statement_kind)
  unfolding spoken_from
  spoken-statement k = rw k

  spoken-end : get_or scene at 0 ≡ end_kind → spoken_from (suc more) scene at ≡ []
  unfolding spoken_from
  spoken-end k = rw k

-- a statement by the identifiers of its places
abbrev pub spoken_by : List ℕ → Statement → Spoken
spoken_by identifiers s = record { from = get_or identifiers s.from 0; to = get_or identifiers s.to 0; set = s.set }

-- statements in the order of the file, the earliest first
unfoldable pub in_file : List ℕ → List Statement → List Spoken
in_file identifiers [] = []
in_file identifiers (s ∷ earlier) = in_file identifiers earlier ++ (spoken_by identifiers s ∷ [])

-- the places that they name are those of regions
abbrev pub Inside : ℕ → List Statement → Type 0
Inside n [] = Unit
Inside n (s ∷ earlier) = (s.from < n) × (s.to < n) × Inside n earlier

module _ (scene : List ℕ) (final : Said) where
  abbrev all : List Statement → List Spoken
  all = in_file final.identifiers

  -- what is still to be read is what comes behind what was said
  record Known (more at : ℕ) (said : Said) : Type 0 where
    file : all final.statements ≡ all said.statements ++ spoken_from more scene at
    inside : Inside (regions final) said.statements → Inside (regions final) final.statements

  -- the record of a statement names the identifiers of its places
  named : (said : Said) (at : ℕ) (a b : Place) (set : ℕ) → States scene said at a b set → Extends said final
      → spoken_by final.identifiers (statement a b set) ≡ spoken_at scene at
  named said at a b set d x =
      let first = place_found said (identifier (number_at scene (at + 1))) a d.from_is.finds in
      let second = place_found said (identifier (number_at scene (at + 5))) b d.to_is.finds in
      rw (x.same a.0 first.inside ∙ first.entry, x.same b.0 second.inside ∙ second.entry, d.set_is)

  module _ (more at : ℕ) (said : Said) where
    known_region : (name : ℕ) → get_or scene at 0 ≡ region_kind
        → Known more (at + length_of region_kind) (declared said name) → Known (suc more) at said
    known_region name k f = record { file = rw (spoken_region scene more at k) f.file; inside = f.inside }

    known-statement : (a b : Place) (set : ℕ) → States scene said at a b set → Extends said final
        → Known more (at + length_of statement_kind) (stated said a b set) → Known (suc more) at said
    unfolding in_file
    known-statement a b set d x f =
        let rest : List Spoken = spoken_from more scene (at + length_of statement_kind) in
        let first = place_found said (identifier (number_at scene (at + 1))) a d.from_is.finds in
        let second = place_found said (identifier (number_at scene (at + 5))) b d.to_is.finds in
        record {
          file = f.file
              ∙ append_assoc (all said.statements) (spoken_by final.identifiers (statement a b set) ∷ []) rest
              ∙ ap (λ (s : Spoken). all said.statements ++ (s ∷ rest)) (named said at a b set d x)
              ∙ ap (λ (l : List Spoken). all said.statements ++ l) (sym (spoken-statement scene more at d.whole.kind_is));
          inside = λ before. f.inside (omega (arith, x.long, first.inside), omega (arith, x.long, second.inside), before);
        }

    known-end : get_or scene at 0 ≡ end_kind → said ≡ final → Known (suc more) at said
    known-end k e = record {
      file = rw (spoken-end scene more at k, e) (sym (append-nil (all final.statements)));
      inside = λ before. subst (λ (x : Said). Inside (regions final) x.statements) e before;
    }

  known_from : (more at : ℕ) (said : Said) → read_from more scene at said ≡ accepted_said final → Known more at said
  unfolding read_from
  known_from zero at said e = let z : ◌≡◌ {A = ℕ} 0 1 = cc in absurd (omega arith)
  known_from (suc more) at said e =
      by_record (record_at scene said at) refl e (λ next then q. known_from more next then q)
    where
      by_record : (k : Judged) → record_at scene said at ≡ k → follows (read_from more scene) at said k ≡ accepted_said final
          → ((next : ℕ) (then : Said) → read_from more scene next then ≡ accepted_said final → Known more next then) → Known (suc more) at said
      by_record (declares name) r e later =
          known_region more at said name (declares_why scene said at r).region.whole.kind_is
          (later (at + length_of region_kind) (declared said name) e)
      by_record (states a b set) r e later =
          let x = extends_from scene more (at + length_of statement_kind) (stated said a b set) final e in
          known-statement more at said a b set (states_why scene said at r) (record { long = x.long; same = x.same })
          (later (at + length_of statement_kind) (stated said a b set) e)
      by_record ends r e later =
          known-end more at said (ends_why scene said at r).whole.kind_is (let q : said ≡ final = cc in q)
      by_record (fails number offset) r e later = let z : ◌≡◌ {A = ℕ} 0 1 = cc in absurd (omega arith)

module _ (scene : List ℕ) {said : Said} (e : read_scene scene ≡ accepted_said said) where
  known : Known scene said (suc (length scene)) 0 silent
  known = known_from scene said (suc (length scene)) 0 silent (accepted-records scene e)

  pub in_file_lem : spoken scene ≡ in_file said.identifiers said.statements
  unfolding spoken in_file
  in_file_lem = sym known.file

  pub all_inside : Inside (regions said) said.statements
  all_inside = known.inside tt

-- ---- the cells

-- one statement more behind the others
last_narrows : (x s : Bool) (a b r : ℕ) → cond x (intersect a (cond s (intersect r b) r)) (cond s (intersect r b) r)
    ≡ cond s (intersect (cond x (intersect a r) r) b) (cond x (intersect a r) r)
last_narrows true true a b r = sym (intersect_assoc a r b)
last_narrows true false a b r = refl
last_narrows false true a b r = refl
last_narrows false false a b r = refl

alone_narrows : (s : Bool) (b : ℕ) → cond s (intersect b universal) universal ≡ cond s (intersect universal b) universal
alone_narrows true b = intersect_comm b universal
alone_narrows false b = refl

among-last : (l : List Spoken) (s : Spoken) (a b : ℕ)
    → among (l ++ (s ∷ [])) a b ≡ cond (eqb s.from a && eqb s.to b) (intersect (among l a b) s.set) (among l a b)
unfolding among
among-last [] s a b = alone_narrows (eqb s.from a && eqb s.to b) s.set
among-last (x ∷ l) s a b =
    let here : Bool = eqb x.from a && eqb x.to b in
    ap (λ (r : ℕ). cond here (intersect x.set r) r) (among-last l s a b)
    ∙ last_narrows here (eqb s.from a && eqb s.to b) x.set s.set (among l a b)

-- a cell by place is the pair by identifier
module _ (identifiers : List ℕ) (different : Different identifiers) (i j : ℕ) (hi : i < length identifiers) (hj : j < length identifiers) where
  abbrev pub a : ℕ
  a = get_or identifiers i 0

  abbrev pub b : ℕ
  b = get_or identifiers j 0

  pub stated-among : (l : List Statement) → Inside (length identifiers) l → stated_cell starting_cell l i j ≡ among (in_file identifiers l) a b
  unfolding in_file among
  stated-among [] within = stated-none starting_cell i j
  stated-among (s ∷ l) within =
      stated_more starting_cell s l i j
      ∙ rw (
        stated-among l within.2,
        same_test identifiers s.from i (get_or identifiers s.from 0) different within.0 hi refl,
        same_test identifiers s.to j (get_or identifiers s.to 0) different within.1 hj refl,
      )
      (sym (among-last (in_file identifiers l) (spoken_by identifiers s) a b))

-- cell (i, j) of an accepted scene, by the statements as they stand in the file
pub filed : (scene : List ℕ) {said : Said} → read_scene scene ≡ accepted_said said → (i j : ℕ) → i < regions said → j < regions said
    → stated_cell starting_cell said.statements i j ≡ among (spoken scene) (get_or said.identifiers i 0) (get_or said.identifiers j 0)
filed scene {said} e i j hi hj =
    stated-among said.identifiers (accepted_different scene e) i j hi hj said.statements (all_inside scene e)
    ∙ ap (λ (l : List Spoken). among l (get_or said.identifiers i 0) (get_or said.identifiers j 0)) (sym (in_file_lem scene e))
