-- The pieces of a written scene: how long they are, and how one more record continues them.
use mathlib.Core.Path.{◌≡◌, refl, ap, ◌∙◌}
use mathlib.Core.Bool.{Bool, not}
use mathlib.Core.List.{List, [], ◌∷◌, ◌++◌, append-nil}
use Prim.Native.Nat.{ℕ, zero, suc, ◌+◌, ◌*◌, ◌≤◌, ◌<◌}
use native.Mathlib.Nat.{mul-le-mul}
use native.Mathlib.Numerals.{add-one}
use native.Mathlib.Omega.{arith}
use borrow.Author.Tests.{eq-eqb, ne_eqb}
use lib.Dec.{eqb}
use lib.ListN.{length, get_or, take, length-append}
use lib.Seq.{take-suc, take-length}
use Rattle.std.specs.List.{count_by}
use Rattle.std.proofs.lemmas.List.Sums.{count_by_more_no, count_by_more_yes}
use Rattle.relation.specs.Sets.{universal}
use Rattle.lists.proofs.Splits.{by_test, split_lt}
use Rattle.scene.specs.Format.{region_record}
use Rattle.writer.specs.Writable.{Sized}
use Rattle.writer.specs.Scene.{region_records, cell_record, statement_records, scene_of, stated_count}

-- ---- regions

pub length-regions : (identifiers : List ℕ) → length (region_records identifiers) ≡ 5 * length identifiers
unfolding region_records
length-regions [] = refl
length-regions (x ∷ rest) = omega (arith, length-regions rest)

regions-append : (a b : List ℕ) → region_records (a ++ b) ≡ region_records a ++ region_records b
unfolding region_records
regions-append [] b = refl
regions-append (x ∷ a) b = ap (λ (l : List ℕ). region_record x ++ l) (regions-append a b)

pub regions_more : (identifiers : List ℕ) (p : ℕ) → p < length identifiers
    → region_records (take (p + 1) identifiers) ≡ region_records (take p identifiers) ++ region_record (get_or identifiers p 0)
unfolding region_records
regions_more identifiers p h =
    rw (add-one, take-suc identifiers p 0) (regions-append (take p identifiers) (get_or identifiers p 0 ∷ []))

-- ---- statements

module _ (n : ℕ) (identifiers cells : List ℕ) where
  pub length-statements : (p : ℕ) → length (statement_records p n identifiers cells) ≡ 10 * stated_count p cells
  unfolding statement_records stated_count
  length-statements zero = refl
  length-statements (suc p) =
      by_test (eqb (get_or cells p 0) universal)
      (λ e. rw (e, append-nil) (omega (arith, length-statements p)))
      (λ e. rw (e, length-append) (omega (arith, length-statements p)))

  -- a cell of 255 is not stated
  pub statements-same : (p : ℕ) → get_or cells p 0 ≡ universal
      → statement_records (p + 1) n identifiers cells ≡ statement_records p n identifiers cells
  unfolding statement_records
  statements-same p e = rw (add-one, eq-eqb (get_or cells p 0) universal e) (append-nil _)

  -- any other is, after those before it
  pub statements_more : (p : ℕ) → (get_or cells p 0 ≡ universal → ⊥)
      → statement_records (p + 1) n identifiers cells
      ≡ statement_records p n identifiers cells ++ cell_record n identifiers cells p
  unfolding statement_records
  statements_more p e = rw (add-one, ne_eqb (get_or cells p 0) universal e)

pub counted_same : (cells : List ℕ) (p : ℕ) → get_or cells p 0 ≡ universal → stated_count (p + 1) cells ≡ stated_count p cells
unfolding stated_count
counted_same cells p e = rw (add-one, eq-eqb (get_or cells p 0) universal e) (omega arith)

pub counted_more : (cells : List ℕ) (p : ℕ) → (get_or cells p 0 ≡ universal → ⊥) → stated_count (p + 1) cells ≡ stated_count p cells + 1
unfolding stated_count
counted_more cells p e = rw (add-one, ne_eqb (get_or cells p 0) universal e)

-- no more cells are stated than there are
pub counted_most : (cells : List ℕ) (p : ℕ) → stated_count p cells ≤ p
unfolding stated_count
counted_most cells zero = omega arith
counted_most cells (suc p) =
    by_test (eqb (get_or cells p 0) universal)
    (λ e. rw e (omega (arith, counted_most cells p)))
    (λ e. rw e (omega (arith, counted_most cells p)))

-- counting all of them as the library does
abbrev is_stated : ℕ → Bool
is_stated set = not (eqb set universal)

counted_front : (cells : List ℕ) (p : ℕ) → p ≤ length cells → stated_count p cells ≡ count_by is_stated (take p cells)
unfolding stated_count
counted_front cells zero h = refl
counted_front cells (suc p) h =
    by_test (eqb (get_or cells p 0) universal)
    (λ e. let no = rw add-one at (count_by_more_no is_stated cells p 0 h (ap not e)) in rw (e, no) (omega (arith, counted_front cells p (omega arith))))
    (λ e. let yes = rw add-one at (count_by_more_yes is_stated cells p 0 h (ap not e)) in rw (e, yes) (omega (arith, counted_front cells p (omega arith))))

pub counted_all : (cells : List ℕ) → stated_count (length cells) cells ≡ count_by (λ set. not (eqb set universal)) cells
counted_all cells = counted_front cells (length cells) (omega arith) ∙ ap (count_by is_stated) (take-length cells)

-- and more of more
pub counted_grows : (cells : List ℕ) (p q : ℕ) → p ≤ q → stated_count p cells ≤ stated_count q cells
unfolding stated_count
counted_grows cells p zero h = let e : p ≡ 0 = omega arith in rw e (omega arith)
counted_grows cells p (suc q) h =
    split_lt q p (λ l. let e : p ≡ suc q = omega arith in rw e (omega arith)) (λ l. omega (arith, counted_grows cells p q l))

-- ---- the scene

-- n² is small, so nothing that a call computes with it wraps
pub square-small : (n : ℕ) → n ≤ 64 → n * n ≤ 4096
square-small n h = mul-le-mul h h

pub few_cells : (n : ℕ) (identifiers cells : List ℕ) → Sized n identifiers cells → length cells ≤ 4096
few_cells n identifiers cells sized = omega (arith, sized.square.size, square-small n sized.square.few)

-- five bytes for each region, ten for each statement, one for End
pub length_scene : (n : ℕ) (identifiers cells : List ℕ)
    → length (scene_of n identifiers cells) ≡ 5 * length identifiers + 10 * stated_count (n * n) cells + 1
unfolding scene_of
length_scene n identifiers cells =
    simp length-append (omega (arith, length-regions identifiers, length-statements n identifiers cells (n * n)))

-- the same of a matrix whose regions have identifiers
pub length_sized : (n : ℕ) (identifiers cells : List ℕ) → Sized n identifiers cells
    → length (scene_of n identifiers cells) ≡ 5 * n + 10 * stated_count (length cells) cells + 1
length_sized n identifiers cells sized =
    omega (arith, length_scene n identifiers cells, sized.regions, ap (λ (k : ℕ). stated_count k cells) sized.square.size)
