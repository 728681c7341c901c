-- A scene written from what an accepted scene says is no longer than that one: a cell that is not 255 comes from a statement at
-- least.
use mathlib.Core.Path.{◌≡◌, refl, sym, ap, ◌∙◌}
use mathlib.Core.Bool.{Bool, true, false, cond}
use mathlib.Core.List.{List, [], ◌∷◌}
use Prim.Native.Nat.{ℕ, zero, suc, ◌+◌, ◌*◌, ◌≤◌, ◌<◌}
use native.Mathlib.Omega.{arith}
use lib.Dec.{eqb}
use lib.ListN.{length, get_or}
use Rattle.lists.proofs.Splits.{split_eq}
use Rattle.relation.specs.Sets.{universal}
use Rattle.matrix.specs.Cells.{row, column, grid}
use Rattle.matrix.proofs.CellLaws.{place-back, at_place}
use Rattle.filing.specs.Said.{Statement, Said, regions}
use Rattle.filing.specs.Stated.{stated_cell, cells_of}
use Rattle.filing.proofs.StatedLaws.{stated-none, stated_elsewhere}
use Rattle.scene.specs.Reading.{accepted_said, read_scene}
use Rattle.scene.specs.Reads.{starting_cell}
use Rattle.scene.proofs.Reasons.{ends_why}
use Rattle.scene.proofs.Reached.{reached_far}
use Rattle.scene.proofs.Endings.{accepted-records, finished}
use Rattle.writer.specs.Scene.{scene_of, stated_count}
use Rattle.writer.proofs.SceneLaws.{length_scene}

-- ---- how long an accepted scene is

-- five bytes for each region, ten for each statement, one for End
pub accepted-length : (scene : List ℕ) {said : Said} → read_scene scene ≡ accepted_said said
    → length scene ≡ 5 * regions said + 10 * length said.statements + 1
accepted-length scene {said} e =
    let f = finished scene (accepted-records scene e) in
    omega (arith, reached_far scene f.reached, (ends_why scene said f.at f.end-there).last)

-- ---- how many cells a list of statements narrows

-- one for a cell that is not 255
abbrev counts : ℕ → ℕ
counts set = cond (eqb set universal) 0 1

counts_most : (set : ℕ) → counts set ≤ 1
counts_most set = go (eqb set universal)
  where
    go : (b : Bool) → cond b 0 1 ≤ 1
    go true = omega arith
    go false = omega arith

module _ (a b : List ℕ) where
  same_count : (p : ℕ) → ((k : ℕ) → k < p → get_or a k 0 ≡ get_or b k 0) → stated_count p a ≡ stated_count p b
  unfolding stated_count
  same_count zero h = refl
  same_count (suc p) h =
      omega (arith, same_count p (λ k l. h k (omega arith)), ap counts (h p (omega arith)))

  -- lists that differ at one place at most
  one_more_counts : (q p : ℕ) → ((k : ℕ) → k < p → (k ≡ q → ⊥) → get_or a k 0 ≡ get_or b k 0) → stated_count p a ≤ stated_count p b + 1
  unfolding stated_count
  one_more_counts q zero h = omega arith
  one_more_counts q (suc p) h =
      split_eq p q
      (λ e. omega (arith, same_count p (λ k l. h k (omega arith) (λ f. omega arith)), counts_most (get_or a p 0)))
      (λ e. omega (arith, one_more_counts q p (λ k l. h k (omega arith)), ap counts (h p (omega arith) e)))

none_counts : (a : List ℕ) (p : ℕ) → ((k : ℕ) → k < p → get_or a k 0 ≡ universal) → stated_count p a ≡ 0
unfolding stated_count
none_counts a zero h = refl
none_counts a (suc p) h = omega (arith, none_counts a p (λ k l. h k (omega arith)), ap counts (h p (omega arith)))

-- no more cells than statements
stated-cells : (n : ℕ) (l : List Statement) → stated_count (n * n) (grid n (stated_cell starting_cell l)) ≤ length l
stated-cells n [] =
    omega (
      arith,
      none_counts (grid n (stated_cell starting_cell [])) (n * n)
          (λ k h. at_place n (stated_cell starting_cell []) k h ∙ stated-none starting_cell (row n k) (column n k)),
    )
stated-cells n (s ∷ l) =
    omega (
      arith,
      stated-cells n l,
      one_more_counts (grid n (stated_cell starting_cell (s ∷ l))) (grid n (stated_cell starting_cell l)) (s.from * n + s.to) (n * n)
          (λ k h d.
          at_place n (stated_cell starting_cell (s ∷ l)) k h
          ∙ stated_elsewhere starting_cell s l (row n k) (column n k) (λ e f. d (rw (e, f) (sym (place-back n k))))
          ∙ sym (at_place n (stated_cell starting_cell l) k h)),
    )

-- the scene that is written from what was said
pub no_longer : (scene : List ℕ) {said : Said} → read_scene scene ≡ accepted_said said
    → length (scene_of (regions said) said.identifiers (cells_of starting_cell said)) ≤ length scene
no_longer scene {said} e =
    omega (
      arith,
      accepted-length scene e,
      length_scene (regions said) said.identifiers (cells_of starting_cell said),
      stated-cells (regions said) said.statements,
    )
