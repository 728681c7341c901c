-- The reader takes a written scene record by record: it says the identifiers by place, then a statement for each cell that is
-- not 255.
use mathlib.Core.Path.{◌≡◌, refl, sym, ap, ◌∙◌}
use mathlib.Core.Bool.{cond}
use mathlib.Core.List.{List, [], ◌∷◌, ◌++◌, append_assoc}
use Prim.Native.Nat.{ℕ, zero, suc, ◌+◌, ◌*◌, ◌≤◌, ◌<◌}
use native.Mathlib.Nat.{add-zero}
use native.Mathlib.Numerals.{add-one}
use native.Mathlib.Omega.{arith}
use borrow.Author.Tests.{eq-eqb, ne_eqb}
use lib.Dec.{eqb}
use lib.ListN.{length, get_or, take, length-append}
use lib.Seq.{take-suc, get_or-take, length-take-le, take_all}
use Rattle.std.proofs.Common.{Some, None}
use Rattle.region.specs.Lookup.{place, identifier}
use Rattle.lists.proofs.Splits.{split_eq}
use Rattle.filing.specs.Said.{Statement, Said, naming}
use Rattle.filing.specs.Places.{place_of}
use Rattle.filing.proofs.PlaceLaws.{place_new, place-there}
use Rattle.relation.specs.Sets.{universal}
use Rattle.matrix.specs.Cells.{row, column}
use Rattle.matrix.proofs.CellLaws.{row_lt, column_lt}
use Rattle.scene.specs.Format.{most_bytes, end_kind, length_of, region_record}
use Rattle.scene.specs.Record.{declares, states, ends, record_at}
use Rattle.scene.specs.Reading.{accepted_said, read_scene}
use Rattle.scene.specs.Reached.{Reached, start, region, statement}
use Rattle.scene.specs.Different.{Different}
use Rattle.scene.proofs.Reached.{at_end, ended_so}
use Rattle.scene.proofs.Endings.{within_limit}
use Rattle.writer.specs.Scene.{region_records, cell_record, statement_records, scene_of}
use Rattle.writer.specs.Writable.{Sized}
use Rattle.writer.specs.RoundTrip.{Words}
use Rattle.writer.proofs.SceneLaws.{length-regions, regions_more, statements-same, statements_more}
use Rattle.writer.proofs.RecordsBack.{region_judged, statement_judged, end_judged}

-- what is said when these identifiers are declared and these statements made
abbrev pub saying : List ℕ → List Statement → Said
saying identifiers statements = record { identifiers = identifiers; statements = statements }

-- ---- regions

module _ (identifiers : List ℕ) (different : Different identifiers) (words : Words identifiers) where
  -- an identifier is new to those before it
  new_name : (p : ℕ) → p < length identifiers → place_of (naming (take p identifiers)) (identifier (get_or identifiers p 0)) ≡ None
  new_name p l =
      place_new (naming (take p identifiers)) (identifier (get_or identifiers p 0))
      (λ k u e.
      let before : k < p = rw (length-take-le p identifiers (omega arith)) at u in
      different.apart k p before l (sym (get_or-take p identifiers k 0 before) ∙ e))

  -- the first p region records, at the front of a scene, are read as the first p identifiers
  regions_reached : (p : ℕ) → p ≤ length identifiers → (rest scene : List ℕ) → scene ≡ region_records (take p identifiers) ++ rest
      → Reached scene (5 * p) (naming (take p identifiers))
  unfolding length_of
  regions_reached zero l rest scene e = start
  regions_reached (suc p) l rest scene e =
      let front : List ℕ = take p identifiers in
      let x : ℕ = get_or identifiers p 0 in
      let longer : region_records (take (suc p) identifiers) ≡ region_records front ++ region_record x = rw add-one at (regions_more identifiers p l) in
      let split : scene ≡ region_records front ++ (region_record x ++ rest) =
      e ∙ ap (λ (r : List ℕ). r ++ rest) longer ∙ append_assoc (region_records front) (region_record x) rest in
      let count : length front ≡ p = length-take-le p identifiers (omega arith) in
      let at : length (region_records front) ≡ 5 * p = omega (arith, length-regions front) in
      let judged : record_at scene (naming front) (5 * p) ≡ declares x =
      rw (split, ← at)
      (region_judged (region_records front) rest (naming front) x (words.small p) (different.none_zero p l) (new_name p l)
      (omega (arith, different.few))) in
      let next : 5 * suc p ≡ 5 * p + 5 = omega arith in
      rw (next, take-suc identifiers p 0 l) (region x (regions_reached p (omega arith) (region_record x ++ rest) scene split) judged)

-- ---- statements

-- the statement of the cell at a place of the list
abbrev pub statement_at : ℕ → ℕ → List ℕ → Statement
statement_at n p cells = record { from = row n p; to = column n p; set = get_or cells p 0 }

-- the statements of the first `count` cells that are not 255, the latest first
unfoldable pub statements_of : ℕ → ℕ → List ℕ → List Statement
statements_of zero n cells = []
statements_of (suc p) n cells =
    cond (eqb (get_or cells p 0) universal) (statements_of p n cells) (statement_at n p cells ∷ statements_of p n cells)

pub statements_as_before : (n p : ℕ) (cells : List ℕ) → get_or cells p 0 ≡ universal → statements_of (suc p) n cells ≡ statements_of p n cells
unfolding statements_of
statements_as_before n p cells e = rw (eq-eqb (get_or cells p 0) universal e)

pub statements_and_one : (n p : ℕ) (cells : List ℕ) → (get_or cells p 0 ≡ universal → ⊥)
    → statements_of (suc p) n cells ≡ statement_at n p cells ∷ statements_of p n cells
unfolding statements_of
statements_and_one n p cells e = rw (ne_eqb (get_or cells p 0) universal e)

module _ (n : ℕ) (identifiers cells : List ℕ) (different : Different identifiers) (words : Words identifiers) (regions : length identifiers ≡ n)
    (full : (p : ℕ) → p < n * n → get_or cells p 0 ≡ 0 → ⊥) (before : List ℕ) where
  -- the identifier at a place names it, whatever was stated
  found-there : (statements : List Statement) (i : ℕ) → i < n
      → place_of (saying identifiers statements) (identifier (get_or identifiers i 0)) ≡ Some (place i)
  found-there statements i l =
      place-there (saying identifiers statements) i (omega arith) (λ k u. different.apart k i u (omega arith))

  -- the statement records of the first p cells, behind the regions, are read as the statements of these cells
  abbrev StatementsReached : ℕ → Type 0
  StatementsReached p =
      (rest scene : List ℕ) → scene ≡ before ++ (statement_records p n identifiers cells ++ rest)
      → Reached scene (length before) (naming identifiers)
      → Reached scene (length before + length (statement_records p n identifiers cells)) (saying identifiers (statements_of p n cells))

  -- a cell of 255 has none
  universal_next : (p : ℕ) → get_or cells p 0 ≡ universal → StatementsReached p → StatementsReached (suc p)
  universal_next p u earlier rest scene e begin =
      let same : statement_records (suc p) n identifiers cells ≡ statement_records p n identifiers cells =
      rw add-one at (statements-same n identifiers cells p u) in
      rw (same, statements_as_before n p cells u) (earlier rest scene (e ∙ ap (λ (r : List ℕ). before ++ (r ++ rest)) same) begin)

  -- any other has one
  stated_next : (p : ℕ) → p < n * n → (get_or cells p 0 ≡ universal → ⊥) → StatementsReached p → StatementsReached (suc p)
  unfolding length_of
  stated_next p l u earlier rest scene e begin =
      let records : List ℕ = statement_records p n identifiers cells in
      let a : ℕ = get_or identifiers (row n p) 0 in
      let b : ℕ = get_or identifiers (column n p) 0 in
      let one : List ℕ = cell_record n identifiers cells p in
      let said : Said = saying identifiers (statements_of p n cells) in
      let longer : statement_records (suc p) n identifiers cells ≡ records ++ one = rw add-one at (statements_more n identifiers cells p u) in
      let split : scene ≡ before ++ (records ++ (one ++ rest)) =
      e ∙ ap (λ (r : List ℕ). before ++ (r ++ rest)) longer ∙ ap (λ (r : List ℕ). before ++ r) (append_assoc records one rest) in
      let judged : record_at scene said (length before + length records) ≡ states (place (row n p)) (place (column n p)) (get_or cells p 0) =
      rw (split, ← append_assoc before records (one ++ rest), ← length-append before records)
      (statement_judged (before ++ records) rest said a b (get_or cells p 0) (place (row n p)) (place (column n p))
      (words.small (row n p)) (words.small (column n p)) (full p l)
      (found-there (statements_of p n cells) (row n p) (row_lt n p l)) (found-there (statements_of p n cells) (column n p) (column_lt n p l))) in
      let next : length before + length (records ++ one) ≡ length before + length records + 10 = omega (arith, length-append records one) in
      rw (longer, next, statements_and_one n p cells u)
      (statement (place (row n p)) (place (column n p)) (get_or cells p 0) (earlier (one ++ rest) scene split begin) judged)

  statements_reached : (p : ℕ) → p ≤ n * n → StatementsReached p
  unfolding statements_of statement_records
  statements_reached zero l = λ rest scene e begin. rw add-zero begin
  statements_reached (suc p) l =
      split_eq (get_or cells p 0) universal
      (λ u. universal_next p u (statements_reached p (omega arith)))
      (λ u. stated_next p l u (statements_reached p (omega arith)))

-- ---- the whole scene

-- a scene that may be written is accepted, and says the identifiers and a statement for each cell that is not 255
pub scene_read : (n : ℕ) (identifiers cells : List ℕ) → Sized n identifiers cells → Different identifiers → Words identifiers
    → ((p : ℕ) → p < n * n → get_or cells p 0 ≡ 0 → ⊥) → length (scene_of n identifiers cells) ≤ most_bytes
    → read_scene (scene_of n identifiers cells) ≡ accepted_said (saying identifiers (statements_of (n * n) n cells))
unfolding scene_of
scene_read n identifiers cells sized different words full short =
    let R : List ℕ = region_records identifiers in
    let S : List ℕ = statement_records (n * n) n identifiers cells in
    let scene : List ℕ = R ++ (S ++ (end_kind ∷ [])) in
    let all : take n identifiers ≡ identifiers = take_all n identifiers (omega (arith, sized.regions)) in
    let declared : Reached scene (length R) (naming identifiers) =
    rw (length-regions identifiers, sized.regions)
    (rw all at (regions_reached identifiers different words n (omega (arith, sized.regions))
    (S ++ (end_kind ∷ [])) scene (ap (λ (l : List ℕ). region_records l ++ (S ++ (end_kind ∷ []))) (sym all)))) in
    let stated : Reached scene (length R + length S) (saying identifiers (statements_of (n * n) n cells)) =
    statements_reached n identifiers cells different words sized.regions full R (n * n) (omega arith) (end_kind ∷ []) scene refl declared in
    let last : record_at scene (saying identifiers (statements_of (n * n) n cells)) (length R + length S) ≡ ends =
    rw (← append_assoc R S (end_kind ∷ []), ← length-append R S)
    (end_judged (R ++ S) (saying identifiers (statements_of (n * n) n cells)) (omega (arith, sized.square.some, sized.regions))) in
    within_limit scene short ∙ ended_so scene (at_end (length R + length S) (saying identifiers (statements_of (n * n) n cells)) stated last)
