-- What a mark tells of the file: a cell has none exactly when it is 255, and else the statement of that number, from the one identifier
-- to the other, was the last to remove a relation.
use mathlib.Core.Path.{◌≡◌, refl, sym, ap, ◌∙◌, subst}
use mathlib.Core.List.{List, [], ◌∷◌, ◌++◌, append_assoc, append-nil}
use Prim.Native.Nat.{ℕ, suc, ◌≤◌, ◌<◌}
use native.Mathlib.Omega.{arith}
use lib.ListN.{length, get_or, length-append}
use Rattle.relation.specs.Sets.{universal}
use Rattle.filing.specs.Said.{Statement, Said, regions}
use Rattle.filing.specs.Stated.{stated_cell}
use Rattle.filing.specs.Marks.{mark_of}
use Rattle.filing.proofs.MarkLaws.{unmarked_start, start_unmarked, marked-last, mark_few}
use Rattle.scene.specs.Reading.{accepted_said, read_scene}
use Rattle.scene.specs.Reads.{starting_cell}
use Rattle.scene.specs.Spoken.{Spoken, spoken, among, MarkedBy}
use Rattle.scene.proofs.Reached.{reached_far, reached_within}
use Rattle.scene.proofs.Endings.{accepted-records, accepted-short, finished}
use Rattle.scene.proofs.Different.{accepted_different}
use Rattle.scene.proofs.Filed.{spoken_by, in_file, Inside, in_file_lem, all_inside, stated-among}

module _ (identifiers : List ℕ) where
  -- earlier statements stand before later ones
  in_order : (later l : List Statement) → in_file identifiers (later ++ l) ≡ in_file identifiers l ++ in_file identifiers later
  unfolding in_file
  in_order [] l = sym (append-nil (in_file identifiers l))
  in_order (s ∷ later) l =
      ap (λ (x : List Spoken). x ++ (spoken_by identifiers s ∷ [])) (in_order later l)
      ∙ append_assoc (in_file identifiers l) (in_file identifiers later) (spoken_by identifiers s ∷ [])

  length_in_file : (l : List Statement) → length (in_file identifiers l) ≡ length l
  unfolding in_file
  length_in_file [] = refl
  length_in_file (s ∷ l) = omega (arith, length-append (in_file identifiers l) (spoken_by identifiers s ∷ []), length_in_file l)

-- so are the statements behind others
inside-behind : (n : ℕ) (later l : List Statement) → Inside n (later ++ l) → Inside n l
inside-behind n [] l within = within
inside-behind n (s ∷ later) l within = inside-behind n later l within.2

module _ (scene : List ℕ) {said : Said} (e : read_scene scene ≡ accepted_said said) (i j : ℕ) (hi : i < regions said) (hj : j < regions said) where
  abbrev cell-is : ℕ
  cell-is = stated_cell starting_cell said.statements i j

  abbrev mark : ℕ
  mark = mark_of starting_cell said.statements i j

  -- no mark exactly where the set is 255
  pub unmarked : (mark_of starting_cell said.statements i j ≡ 0 → stated_cell starting_cell said.statements i j ≡ universal)
      × (stated_cell starting_cell said.statements i j ≡ universal → mark_of starting_cell said.statements i j ≡ 0)
  unmarked = (unmarked_start starting_cell i j said.statements, start_unmarked starting_cell i j said.statements)

  -- and else the statement of that number
  pub marked : (mark_of starting_cell said.statements i j ≡ 0 → ⊥)
      → MarkedBy (spoken scene) (get_or said.identifiers i 0) (get_or said.identifiers j 0) (mark_of starting_cell said.statements i j)
  unfolding in_file
  marked d =
      let names : List ℕ = said.identifiers in
      let m = marked-last starting_cell i j said.statements d in
      let cells = stated-among names (accepted_different scene e) i j hi hj in
      let inside : Inside (regions said) (m.latest ∷ m.earlier) =
      inside-behind (regions said) m.later (m.latest ∷ m.earlier) (subst (Inside (regions said)) m.among (all_inside scene e)) in
      record {
        earlier = in_file names m.earlier;
        statement = spoken_by names m.latest;
        later = in_file names m.later;
        file = in_file_lem scene e ∙ ap (in_file names) m.among ∙ in_order names m.later (m.latest ∷ m.earlier)
            ∙ append_assoc (in_file names m.earlier) (spoken_by names m.latest ∷ []) (in_file names m.later);
        number = m.number ∙ ap suc (sym (length_in_file names m.earlier));
        from_is = ap (λ (p : ℕ). get_or names p 0) m.from_here;
        to_is = ap (λ (p : ℕ). get_or names p 0) m.to_there;
        removes = λ q. m.removes (cells (m.latest ∷ m.earlier) inside ∙ q ∙ sym (cells m.earlier inside.2));
        last = ap (λ (l : List Spoken). among l (get_or names i 0) (get_or names j 0)) (in_file_lem scene e) ∙ sym (cells said.statements (all_inside scene e))
            ∙ m.last ∙ cells (m.latest ∷ m.earlier) inside;
      }

  -- a scene within its limit has at most 3,276 statements, so a mark has 16 bits
  pub mark_small : mark_of starting_cell said.statements i j ≤ 3276
  mark_small =
      let f = finished scene (accepted-records scene e) in
      omega (
        arith,
        mark_few starting_cell i j said.statements,
        reached_far scene f.reached,
        reached_within scene f.reached,
        accepted-short scene e,
      )
