-- The round trip about the calls for C: what `chachaqom_write` wrote, `chachaqom_read` reads back to the same identifiers and cells, with
-- the marks of the written scene.
use mathlib.Core.Path.{◌≡◌, refl, sym, ap, ◌∙◌}
use mathlib.Core.List.{List, [], ◌∷◌, ◌++◌, append_assoc}
use Prim.Native.Nat.{ℕ, zero, suc, ◌+◌, ◌-◌, ◌*◌, ◌≤◌, ◌<◌}
use native.Mathlib.Omega.{arith}
use borrow.Author.Tests.{eq-eqb, ne_eqb}
use borrow.Fn.Kinds.{Dens, res_t, ended_of}
use contract.Lifetimes.{Lfts}
use denote.Triple.Clauses.{AtExit}
use lib.ListN.{length, get_or, take, replicate}
use lib.Seq.{take-suc, take_all, take_at}
use Rattle.lists.proofs.Splits.{split_eq}
use Rattle.lists.specs.BigEndian.{AllBytes, number_at, numbers_bytes, numbers_in, two_bytes_each}
use Rattle.lists.proofs.LaidLaws.{take-laid}
use Rattle.lists.proofs.BigEndianLaws.{bytes_of_number, number_small}
use Rattle.answer.specs.Ending.{Ending, answered}
use Rattle.filing.specs.Said.{Said, regions}
use Rattle.filing.specs.Stated.{cells_of}
use Rattle.filing.specs.Marks.{marks_of}
use Rattle.filing.specs.Areas.{Areas, Lent, lent_cells, padded}
use Rattle.scene.specs.Reading.{accepted_said, read_scene, read_of}
use Rattle.scene.specs.Reads.{starting_cell, areas_after}
use Rattle.scene.proofs.Small.{one_more_small}
use Rattle.scene.proofs.Endings.{right-areas}
use Rattle.writer.specs.Scene.{scene_of}
use Rattle.writer.specs.Writable.{Writable}
use Rattle.writer.specs.Writing.{written, write_of}
use Rattle.writer.specs.Writes.{buffer_after}
use Rattle.writer.specs.RoundTrip.{Words, written_marks}
use Rattle.writer.proofs.WriteLaws.{is-written, written_or_refused}
use Rattle.writer.proofs.RoundTrip.{says, read_back, made-back, marked-back}
use Rattle.chachaqom.specs.ReadExport.{lent_bytes, identifier_bytes_after, ReadExport}
use Rattle.chachaqom.specs.WriteExport.{identifiers_lent, WriteExport}
use Rattle.chachaqom.specs.RoundTripExports.{RestoredBytes}
use Rattle.chachaqom.proofs.Crossed.{numbers_both, numbers_one}
use Rattle.chachaqom.proofs.Wide.{read_read_back, write_read_back}
use Rattle.chachaqom.proofs.MarksCross.{whole-lent, marks_cross}
use Rattle.chachaqom.proofs.write.chachaqom_write.Kinds as writing
use Rattle.chachaqom.proofs.write.chachaqom_write.Reads.{Post as Writes}
use Rattle.chachaqom.proofs.read.chachaqom_read.Kinds as reading
use Rattle.chachaqom.proofs.read.chachaqom_read.Reads.{Post as Reads}

-- ---- numbers and their bytes, there and back

take_four : (l : List ℕ) (k : ℕ) → k + 4 ≤ length l
    → take (k + 4) l ≡ take k l ++ (get_or l k 0 ∷ get_or l (k + 1) 0 ∷ get_or l (k + 2) 0 ∷ get_or l (k + 3) 0 ∷ [])
take_four l k h =
    let e₁ : k + 4 ≡ suc (k + 3) = omega arith in
    let e₂ : k + 3 ≡ suc (k + 2) = omega arith in
    let e₃ : k + 2 ≡ suc (k + 1) = omega arith in
    let e₄ : k + 1 ≡ suc k = omega arith in
    ap (λ (i : ℕ). take i l) e₁ ∙ take-suc l (k + 3) 0 (omega arith)
    ∙ ap (λ (t : List ℕ). t ++ (get_or l (k + 3) 0 ∷ [])) (ap (λ (i : ℕ). take i l) e₂ ∙ take-suc l (k + 2) 0 (omega arith)
    ∙ ap (λ (t : List ℕ). t ++ (get_or l (k + 2) 0 ∷ [])) (ap (λ (i : ℕ). take i l) e₃ ∙ take-suc l (k + 1) 0 (omega arith)
    ∙ ap (λ (t : List ℕ). t ++ (get_or l (k + 1) 0 ∷ [])) (ap (λ (i : ℕ). take i l) e₄ ∙ take-suc l k 0 (omega arith))))
    ∙ simp append_assoc

numbers_back : (count : ℕ) (bytes : List ℕ) → AllBytes bytes → 4 * count ≤ length bytes → numbers_bytes (numbers_in count bytes) ≡ take (4 * count) bytes
unfolding numbers_in numbers_bytes
numbers_back zero bytes b h = refl
numbers_back (suc count) bytes b h =
    let at : ℕ = 4 * count in
    let next : 4 * suc count ≡ at + 4 = omega arith in
    numbers_both (numbers_in count bytes) (number_at bytes at ∷ [])
    ∙ ap (λ (l : List ℕ). l ++ numbers_bytes (number_at bytes at ∷ [])) (numbers_back count bytes b (omega arith))
    ∙ ap (λ (l : List ℕ). take at bytes ++ l) (numbers_one (number_at bytes at) ∙ bytes_of_number bytes at b)
    ∙ sym (take_four bytes at (omega arith))
    ∙ ap (λ (k : ℕ). take k bytes) (sym next)

numbers_words : (count : ℕ) (bytes : List ℕ) → AllBytes bytes → (p : ℕ) → get_or (numbers_in count bytes) p 0 < 4294967296
unfolding numbers_in
numbers_words zero bytes b p = omega arith
numbers_words (suc count) bytes b p =
    one_more_small (numbers_in count bytes) (number_at bytes (4 * count)) (numbers_words count bytes b) (number_small bytes (4 * count) b) p

-- ---- a write that succeeded

record Wrote (n : ℕ) (identifiers cells : List ℕ) (room : ℕ) : Type 0 where
  writable : Writable n identifiers cells
  ending : write_of n identifiers cells room ≡ written (scene_of n identifiers cells)

wrote : (n : ℕ) (identifiers cells : List ℕ) (room : ℕ) → (answered (write_of n identifiers cells room)).number ≡ 0
    → Wrote n identifiers cells room
wrote n identifiers cells room z =
    written_or_refused n identifiers cells room (Wrote n identifiers cells room)
    (λ w l. record { writable = w; ending = is-written n identifiers cells room w l })
    (λ numbers h e. absurd (h (sym (ap (λ (x : Ending (List ℕ)). (answered x).number) e) ∙ z)))

module _ {n : ℕ} {identifiers cells buffer answer buffer' answer' : List ℕ} {number : ℕ}
    (write : WriteExport n identifiers cells buffer answer buffer' answer' number) (fit : length answer ≡ 20) (good : number ≡ 0) where
  abbrev names : List ℕ
  names = identifiers_lent n identifiers

  done : Wrote n (identifiers_lent n identifiers) cells (length buffer)
  done =
      wrote n names cells (length buffer)
      (sym (write.answers.returned ∙ rw (eq-eqb (length answer) 20 fit)) ∙ good)

  -- the identifiers were lent as 4 n bytes
  lent_so : length identifiers ≡ 4 * n
  lent_so =
      split_eq (length identifiers) (4 * n) (λ e. e)
      (λ d.
      let none : length names ≡ 0 = rw (ne_eqb (length identifiers) (4 * n) d) in
      absurd (omega (arith, none, done.writable.sized.regions, done.writable.sized.square.some)))

  names_are : names ≡ numbers_in n identifiers
  names_are = rw (eq-eqb (length identifiers) (4 * n) lent_so)

  words : Words (identifiers_lent n identifiers)
  words = record { small = λ p. rw names_are (numbers_words n identifiers write.identifiers-bytes p) }

  -- the scene stands in front of the buffer
  front : take (length (scene_of n (identifiers_lent n identifiers) cells)) buffer' ≡ scene_of n (identifiers_lent n identifiers) cells
  unfolding buffer_after
  front =
      let scene : List ℕ = scene_of n names cells in
      ap (take (length scene)) (write.in_buffer ∙ rw (eq-eqb (length answer) 20 fit, done.ending))
      ∙ take-laid (length scene) scene buffer (omega arith) ∙ take_all (length scene) scene (omega arith)

  module _ {identifiers'' cells'' marks'' answer'' identifiers''' cells''' marks''' answer''' : List ℕ} {other : ℕ}
      (read : ReadExport (take (length (scene_of n (identifiers_lent n identifiers) cells)) buffer') identifiers'' cells'' marks'' answer'' identifiers''' cells''' marks''' answer''' other)
      (long : length identifiers'' ≡ 256) (all : length cells'' ≡ 4096) (each : length marks'' ≡ 8192) (fit'' : length answer'' ≡ 20) where
    abbrev scene : List ℕ
    scene = take (length (scene_of n (identifiers_lent n identifiers) cells)) buffer'

    abbrev areas : Areas
    areas = lent_bytes identifiers'' cells'' marks''

    lent : Lent (lent_bytes identifiers'' cells'' marks'')
    lent = whole-lent identifiers'' cells'' marks'' long all each

    abbrev said : Said
    said = says n names cells done.writable words

    alone : read_scene scene ≡ accepted_said said
    alone = ap read_scene front ∙ read_back n names cells done.writable words

    ending : read_of scene areas ≡ accepted_said said
    ending = right-areas scene lent ∙ alone

    counted : regions said ≡ n
    counted = done.writable.sized.regions

    pub round_trip_restores : RestoredBytes n identifiers cells identifiers''' cells''' marks''' answer''' other
    unfolding areas_after
    round_trip_restores =
        let cells_are : cells_of starting_cell said ≡ cells = made-back n names cells done.writable words write.cells-bytes in
        let marks_are : marks_of starting_cell said ≡ written_marks n cells =
        marked-back n names cells done.writable words write.cells-bytes in
        let zeros : List ℕ = replicate (64 - length names) 0 in
        let left : identifiers''' ≡ numbers_bytes (names ++ zeros) =
        read.in_identifiers
        ∙ rw (eq-eqb (length answer'') 20 fit'')
        (ap (λ (o : Ending Said). identifier_bytes_after o identifiers'' cells'' marks'') ending ∙ rw lent.identifiers-long) in
        let shown : numbers_bytes names ≡ identifiers =
        ap numbers_bytes names_are ∙ numbers_back n identifiers write.identifiers-bytes (omega (arith, lent_so))
        ∙ take_all (4 * n) identifiers (omega (arith, lent_so)) in
        record {
          accepted = read.answers.returned ∙ rw (eq-eqb (length answer'') 20 fit'', ending);
          regions = (read_read_back read fit'').count ∙ rw ending counted;
          same-identifiers = ap (take (4 * n)) (left ∙ numbers_both names zeros)
              ∙ take_at (numbers_bytes names) (numbers_bytes zeros) (4 * n) (ap length shown ∙ lent_so) ∙ shown;
          same-cells = read.in_cells
              ∙ rw (eq-eqb (length answer'') 20 fit'') (ap (λ (o : Ending Said). (areas_after o areas).cells) ending ∙ rw (all, cells_are));
          written-marks = marks_cross read long all each fit'' alone ∙ ap (λ (m : List ℕ). two_bytes_each (padded lent_cells m)) marks_are;
        }

-- about the calls themselves: the scene is as long as the fifth number of the writer's answer says
pub round_trip_calls : (κs : Lfts 4) (a : Dens κs writing.ps) (number : (res_t writing.r κs).Denot)
    (s : AtExit (ended_of 4 writing.ps writing.r) κs) (μs : Lfts 5) (b : Dens μs reading.ps) (other : (res_t reading.r μs).Denot)
    (t : AtExit (ended_of 5 reading.ps reading.r) μs) → Writes κs a number s → Reads μs b other t
    → length a.1.1.1.1.0.now ≡ 20 → number ≡ 0
    → b.0.now ≡ take (number_at s.1.1.1.1.0.now 16) s.1.1.1.0.now
    → length b.1.0.now ≡ 256 → length b.1.1.0.now ≡ 4096 → length b.1.1.1.0.now ≡ 8192
    → length b.1.1.1.1.0.now ≡ 20
    → RestoredBytes a.0 a.1.0.now a.1.1.0.now t.1.0.now t.1.1.0.now t.1.1.1.0.now
    t.1.1.1.1.0.now other
round_trip_calls κs a number s μs b other t write read fit good e long all each fit'' =
    let length-told : number_at s.1.1.1.1.0.now 16 ≡ length (scene_of a.0 (identifiers_lent a.0 a.1.0.now) a.1.1.0.now) =
    (write_read_back write fit).count ∙ ap (λ (o : Ending (List ℕ)). (answered o).count) (done write fit good).ending in
    round_trip_restores write fit good (rw (e, length-told) at read) long all each fit''
