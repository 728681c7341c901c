-- What putting records one behind the other leaves in a buffer, and that there is room for each.
use mathlib.Core.Path.{◌≡◌, refl, ap, ◌∙◌}
use mathlib.Core.List.{List, [], ◌∷◌, ◌++◌, append_assoc}
use Prim.Native.Nat.{ℕ, suc, ◌+◌, ◌*◌, ◌≤◌, ◌<◌}
use native.Mathlib.Omega.{arith}
use lib.ListN.{length, get_or, set, take, length-set, length-append}
use lib.Seq.{sets, length-sets, length-take-le}
use Rattle.relation.specs.Sets.{universal}
use Rattle.region.specs.Lookup.{place}
use Rattle.region.specs.Named.{identifier_at}
use Rattle.matrix.specs.Cells.{row, column}
use Rattle.lists.specs.BigEndian.{big_endian, number_put}
use Rattle.lists.proofs.BigEndianLaws.{put_fits}
use Rattle.scene.specs.Format.{end_kind, region_record, statement_record}
use Rattle.writer.specs.Scene.{region_records, cell_record, statement_records, scene_of}
use Rattle.writer.specs.Inner.{Put}
use Rattle.writer.specs.Writable.{Sized}
use Rattle.writer.proofs.SceneLaws.{length-regions, length-statements, length_scene, regions_more}
use Rattle.writer.proofs.SceneLaws.{statements-same, statements_more, counted_more, counted_grows}

-- ---- one record

pub region_put : (buffer after : List ℕ) (at identifier : ℕ) → at + 5 ≤ length buffer
    → after ≡ number_put (set buffer at 1) (at + 1) identifier → after ≡ sets buffer at (region_record identifier)
region_put buffer after at identifier h e =
    let next : at + 1 ≡ suc at = omega arith in
    rw (e, put_fits (set buffer at 1) (at + 1) identifier (omega (arith, length-set buffer at 1)), next)

length_number_put : (area : List ℕ) (at x : ℕ) → at + 4 ≤ length area → length (number_put area at x) ≡ length area
length_number_put area at x h = rw (put_fits area at x h) (length-sets area at (big_endian x))

pub statement_put : (buffer first second : List ℕ) (at a b set' : ℕ) → at + 10 ≤ length buffer
    → first ≡ number_put (set buffer at 2) (at + 1) a → second ≡ number_put first (at + 5) b
    → set second (at + 9) set' ≡ sets buffer at (statement_record a b set')
statement_put buffer first second at a b set' h e f =
    let long : length (set buffer at 2) ≡ length buffer = length-set buffer at 2 in
    let kept : length first ≡ length buffer = rw e (length_number_put (set buffer at 2) (at + 1) a (omega arith) ∙ long) in
    let one : at + 1 ≡ suc at = omega arith in
    let five : at + 5 ≡ suc (suc (suc (suc (suc at)))) = omega arith in
    let nine : at + 9 ≡ suc (suc (suc (suc (suc (suc (suc (suc (suc at)))))))) = omega arith in
    rw (f, put_fits first (at + 5) b (omega arith), e, put_fits (set buffer at 2) (at + 1) a (omega arith), one, five, nine)

-- ---- one record more

sets-append : (a b area : List ℕ) (at : ℕ) → sets (sets area at a) (at + length a) b ≡ sets area at (a ++ b)
sets-append [] b area at = ap (λ (k : ℕ). sets area k b) (omega arith)
sets-append (x ∷ a) b area at =
    let e : at + suc (length a) ≡ suc at + length a = omega arith in rw e (sets-append a b (set area at x) (suc at))

put_behind : (before buffer after records record' : List ℕ) (start at : ℕ) → buffer ≡ sets before start records
    → at ≡ start + length records → after ≡ sets buffer at record' → after ≡ sets before start (records ++ record')
put_behind before buffer after records record' start at e l f =
    rw (f, l, e) (sets-append records record' before start)

-- the regions up to a place, and the one at it
pub region_next : (identifiers before buffer after : List ℕ) (p x : ℕ) → p < length identifiers → x ≡ get_or identifiers p 0
    → buffer ≡ sets before 0 (region_records (take p identifiers)) → after ≡ sets buffer (5 * p) (region_record x)
    → after ≡ sets before 0 (region_records (take (p + 1) identifiers))
region_next identifiers before buffer after p x h named e f =
    rw (regions_more identifiers p h, ← named)
    (put_behind before buffer after (region_records (take p identifiers)) (region_record x) 0 (5 * p) e
    (omega (arith, length-regions (take p identifiers), length-take-le p identifiers (omega arith)))
    f)

module _ (n : ℕ) (identifiers cells before : List ℕ) (start : ℕ) where
  pub none_put : Put n 0 identifiers cells before start before start
  unfolding statement_records
  none_put = record { bytes = refl; end = omega arith }

  -- a cell of 255 puts nothing
  pub universal_put : (p : ℕ) (buffer : List ℕ) (at : ℕ) → get_or cells p 0 ≡ universal
      → Put n p identifiers cells before start buffer at → Put n (p + 1) identifiers cells before start buffer at
  universal_put p buffer at e put =
      let same = statements-same n identifiers cells p e in record { bytes = rw same put.bytes; end = rw same put.end }

  -- any other puts its statement behind those before it
  pub stated_put : (p : ℕ) (buffer after : List ℕ) (at a b : ℕ) → (get_or cells p 0 ≡ universal → ⊥)
      → Put n p identifiers cells before start buffer at
      → a ≡ identifier_at identifiers (place (row n p)) → b ≡ identifier_at identifiers (place (column n p))
      → after ≡ sets buffer at (statement_record a b (get_or cells p 0)) → Put n (p + 1) identifiers cells before start after (at + 10)
  stated_put p buffer after at a b e put from to f =
      let more = statements_more n identifiers cells p e in
      let records = statement_records p n identifiers cells in
      let one = cell_record n identifiers cells p in
      let put_one : after ≡ sets buffer at one = rw (← from, ← to) f in
      record {
        bytes = rw more (put_behind before buffer after records one start at put.bytes put.end put_one);
        end = rw (more, length-append records one) (omega (arith, put.end));
      }

-- ---- room

module _ (n : ℕ) (identifiers cells : List ℕ) (sized : Sized n identifiers cells) (p : ℕ) (inside : p < length cells) where
  -- a cell that is stated takes the room of its record behind those before it
  pub statement_room : (get_or cells p 0 ≡ universal → ⊥)
      → length (statement_records p n identifiers cells) + 10 ≤ length (statement_records (n * n) n identifiers cells)
  statement_room e =
      omega (
        arith,
        length-statements n identifiers cells p,
        length-statements n identifiers cells (n * n),
        counted_more cells p e,
        counted_grows cells (p + 1) (n * n) (omega (arith, sized.square.size)),
      )

-- there is room for the statements from an offset on
pub record Room (n : ℕ) (identifiers cells buffer : List ℕ) (at : ℕ) : Type 0 where
  pub sized : Sized n identifiers cells
  pub fits : at + length (statement_records (n * n) n identifiers cells) ≤ length buffer

module _ (n : ℕ) (identifiers cells buffer : List ℕ) (start : ℕ) (room : Room n identifiers cells buffer start) (p : ℕ)
    (inside : p < length cells) where
  -- then for the record of a cell that is stated too, behind those before it
  pub statement-room : (get_or cells p 0 ≡ universal → ⊥) → start + length (statement_records p n identifiers cells) + 10 ≤ length buffer
  statement-room e = omega (arith, room.fits, statement_room n identifiers cells room.sized p inside e)

-- ---- the whole scene

module _ (n : ℕ) (identifiers cells : List ℕ) (sized : Sized n identifiers cells) where
  -- the regions, the statements and a byte for End
  pub scene_parts : length (scene_of n identifiers cells) ≡ 5 * n + length (statement_records (n * n) n identifiers cells) + 1
  scene_parts =
      omega (arith, length_scene n identifiers cells, length-statements n identifiers cells (n * n), sized.regions)

  -- the regions, the statements behind them, and End behind these
  pub scene_put : (buffer regions statements : List ℕ) (end : ℕ) → regions ≡ sets buffer 0 (region_records identifiers)
      → Put n (n * n) identifiers cells regions (5 * n) statements end
      → set statements end end_kind ≡ sets buffer 0 (scene_of n identifiers cells)
  unfolding scene_of
  scene_put buffer regions statements end e put =
      let R = region_records identifiers in
      let S = statement_records (n * n) n identifiers cells in
      let long : 5 * n ≡ length R = omega (arith, length-regions identifiers, sized.regions) in
      let both : statements ≡ sets buffer 0 (R ++ S) = put_behind buffer regions statements R S 0 (5 * n) e (omega arith) put.bytes in
      let last : end ≡ 0 + length (R ++ S) = omega (arith, put.end, length-append R S) in
      put_behind buffer statements (set statements end end_kind) (R ++ S) (end_kind ∷ []) 0 end both last refl
      ∙ ap (sets buffer 0) (append_assoc R S (end_kind ∷ []))

-- there is room for the scene
pub record SceneRoom (n : ℕ) (identifiers cells buffer : List ℕ) : Type 0 where
  pub sized : Sized n identifiers cells
  pub fits : length (scene_of n identifiers cells) ≤ length buffer

-- then for the regions, and for the statements with a byte behind them
module _ (n : ℕ) (identifiers cells buffer : List ℕ) (room : SceneRoom n identifiers cells buffer) where
  pub regions_fit : 5 * length identifiers ≤ length buffer
  regions_fit = omega (arith, room.fits, length_scene n identifiers cells)

  pub statements_fit : 5 * n + length (statement_records (n * n) n identifiers cells) < length buffer
  statements_fit = omega (arith, room.fits, scene_parts n identifiers cells room.sized)
