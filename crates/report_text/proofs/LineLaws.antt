-- A line that is put field by field is the line, and the lines of pairs cell by cell, or row by row, are those of all cells.
use mathlib.Core.Path.{◌≡◌, sym, ap, ◌∙◌, subst}
use mathlib.Core.List.{List, [], ◌∷◌, ◌++◌, append_assoc, append-nil}
use Prim.Native.Nat.{ℕ, zero, suc, ◌+◌, ◌-◌, ◌*◌, ◌≤◌, ◌<◌}
use native.Mathlib.Nat.{add-zero, add-suc, add-mul}
use native.Mathlib.Numerals.{add-one}
use native.Mathlib.Omega.{arith}
use mathlib.Core.Bool.{cond}
use lib.Dec.{ltb}
use borrow.Author.Tests.{lt-ltb, le-ltb}
use lib.ListN.{length, get_or}
use Rattle.matrix.specs.Cells.{cell, row, column}
use Rattle.matrix.proofs.CellLaws.{place_div, place-mod, place-back}
use Rattle.text.specs.declared.Page.{Page}
use Rattle.text.specs.Line.{line}
use Rattle.text.specs.Put.{Adds, PutsOn, AddsOn}
use Rattle.text.proofs.PutLaws.{puts_adds, adds-adds, adds_none}
use Rattle.text.proofs.Adding as of_lists
use Rattle.report_text.specs.declared.lines.Pairs.{Pairs}
use Rattle.report_text.specs.Report.{sets_line, cell_line, pair_lines}
use Rattle.report_text.specs.Inner.{line_of, row_lines, lines_below}

-- what is put is put under any name
pub renamed : {text other : List ℕ} {page page' : Page} → text ≡ other → AddsOn text page page' → AddsOn other page page'
renamed {page = page} {page' = page'} e a = subst (λ (t : List ℕ). AddsOn t page page') e a

-- a space and a text
pub field_adds : {text : List ℕ} {p₀ p₁ p₂ : Page} → PutsOn (32 ∷ []) p₀ p₁ → PutsOn text p₁ p₂ → AddsOn (32 ∷ text) p₀ p₂
field_adds p q = adds-adds (puts_adds p) (puts_adds q)

-- the further fields of a line are put, each behind a space
pub record Further (fields : List (List ℕ)) (page page' : Page) : Type 0 where
  pub adds : AddsOn (32 ∷ line fields) page page'

-- the last field, with the line feed
pub line-end : {a : List ℕ} {p₀ p₁ p₂ : Page} → AddsOn (32 ∷ a) p₀ p₁ → PutsOn (10 ∷ []) p₁ p₂ → Further (a ∷ []) p₀ p₂
unfolding line
line-end p q = record { adds = adds-adds p (puts_adds q) }

-- a field before others
pub line_more : {a b : List ℕ} {rest : List (List ℕ)} {p₀ p₁ p₂ : Page} → AddsOn (32 ∷ a) p₀ p₁ → Further (b ∷ rest) p₁ p₂
    → Further (a ∷ b ∷ rest) p₀ p₂
unfolding line
line_more p q = record { adds = adds-adds p q.adds }

-- the first field, and with it the line
pub line_begin : {a b : List ℕ} {rest : List (List ℕ)} {p₀ p₁ p₂ : Page} → PutsOn a p₀ p₁ → Further (b ∷ rest) p₁ p₂
    → AddsOn (line (a ∷ b ∷ rest)) p₀ p₂
unfolding line
line_begin p q = adds-adds (puts_adds p) q.adds

-- ---- the lines of pairs, cell by cell, in any buffer from an offset on

module _ (n : ℕ) (identifiers arcs network marks : List ℕ) (p : ℕ) where
  -- a cell above the diagonal has its pair's line
  pub cell-adds : {b b' : List ℕ} {at next : ℕ} (first second : ℕ) → row n p < column n p → first ≡ get_or identifiers (row n p) 0
      → second ≡ get_or identifiers (column n p) 0
      → Adds (sets_line first second (get_or arcs p 0) (get_or network p 0) (get_or marks p 0) (cell n marks (column n p) (row n p))) b at b' next
      → Adds (cell_line n identifiers arcs network marks p) b at b' next
  cell-adds first second h e f a =
      rw (lt-ltb (row n p) (column n p) h, place-back n p, ← e, ← f) a

  -- and any other has none
  pub cell_adds_none : (b : List ℕ) (at : ℕ) → column n p ≤ row n p → Adds (cell_line n identifiers arcs network marks p) b at b at
  cell_adds_none b at h = rw (le-ltb (row n p) (column n p) h) (of_lists.adds_none b at)

  -- the lines of one cell more
  pub pairs_add_cell : {b₀ b b' : List ℕ} {at₀ at next : ℕ} → Adds (pair_lines p n identifiers arcs network marks) b₀ at₀ b at
      → Adds (cell_line n identifiers arcs network marks p) b at b' next → Adds (pair_lines (p + 1) n identifiers arcs network marks) b₀ at₀ b' next
  unfolding pair_lines
  pairs_add_cell a c = rw (add-one p) (of_lists.adds-adds a c)

pub pairs_add_none : (n : ℕ) (identifiers arcs network marks b : List ℕ) (at : ℕ) → Adds (pair_lines 0 n identifiers arcs network marks) b at b at
unfolding pair_lines
pairs_add_none n identifiers arcs network marks b at = of_lists.adds_none b at

-- the lines of the first p cells are put
pub record Lines (n : ℕ) (identifiers arcs network marks b₀ : List ℕ) (at₀ p : ℕ) (b : List ℕ) (at : ℕ) : Type 0 where
  pub within : p ≤ n * n
  pub long : length b ≡ length b₀
  pub lines : Adds (pair_lines p n identifiers arcs network marks) b₀ at₀ b at

pub pairs_all : {n : ℕ} {identifiers arcs network marks b₀ : List ℕ} {at₀ p : ℕ} {b : List ℕ} {at : ℕ}
    → Lines n identifiers arcs network marks b₀ at₀ p b at → n * n ≤ p → Adds (pair_lines (n * n) n identifiers arcs network marks) b₀ at₀ b at
pairs_all {n} {identifiers} {arcs} {network} {marks} {b₀} {at₀} {p} {b} {at} l h =
    let e : p ≡ n * n = omega (arith, l.within) in
    subst (λ (x : ℕ). Adds (pair_lines x n identifiers arcs network marks) b₀ at₀ b at) e l.lines

-- ---- the lines of pairs, row by row

module _ (p : Pairs) (i : ℕ) where
  abbrev n : ℕ
  n = p.stated.n

  -- a cell's line is that of its pair behind the diagonal, and none elsewhere
  cell_more : (j : ℕ) → j < n → (text : List ℕ) → text ≡ cond (ltb i j) (line_of p i j) []
      → lines_below p (i * n + suc j) ≡ lines_below p (i * n + j) ++ text
  unfolding pair_lines
  cell_more j h text e = rw (add-suc (i * n) j, e, place_div n i j h, place-mod n i j h)

  none_before : (j : ℕ) → j ≤ i + 1 → j ≤ n → lines_below p (i * n + j) ≡ lines_below p (i * n)
  none_before zero b c = ap (lines_below p) (add-zero (i * n))
  none_before (suc j) b c =
      cell_more j c [] (rw (le-ltb i j (omega arith))) ∙ append-nil (lines_below p (i * n + j)) ∙ none_before j (omega arith) (omega arith)

  row_so_far : (count : ℕ) → i + 1 + count ≤ n → lines_below p (i * n + (i + 1 + count)) ≡ lines_below p (i * n) ++ row_lines p i count
  unfolding row_lines
  row_so_far zero c = rw (add-zero (i + 1)) (none_before (i + 1) (omega arith) (omega arith) ∙ sym (append-nil (lines_below p (i * n))))
  row_so_far (suc count) c =
      rw (add-suc (i + 1) count)
      (cell_more (i + 1 + count) (omega arith) (line_of p i (i + 1 + count)) (rw (lt-ltb i (i + 1 + count) (omega arith)))
      ∙ ap (λ (before : List ℕ). before ++ line_of p i (i + 1 + count)) (row_so_far count (omega arith))
      ∙ append_assoc (lines_below p (i * n)) (row_lines p i count) (line_of p i (i + 1 + count)))

  -- a row's lines stand behind those of the rows above
  pub row_adds : {p₀ p₁ p₂ : Page} → i < n → AddsOn (lines_below p (i * n)) p₀ p₁ → AddsOn (row_lines p i (n - (i + 1))) p₁ p₂
      → AddsOn (lines_below p ((i + 1) * n)) p₀ p₂
  row_adds h a b =
      let whole : i * n + (i + 1 + (n - (i + 1))) ≡ (i + 1) * n = omega (arith, add-mul i 1 n) in
      renamed (sym (row_so_far (n - (i + 1)) (omega arith)) ∙ ap (lines_below p) whole) (adds-adds a b)

  -- a pair's line stands behind those of the pairs before it
  pub pair_adds : {p₀ p₁ p₂ : Page} (j : ℕ) → i + 1 ≤ j → AddsOn (row_lines p i (j - (i + 1))) p₀ p₁ → AddsOn (line_of p i j) p₁ p₂
      → AddsOn (row_lines p i (j + 1 - (i + 1))) p₀ p₂
  unfolding row_lines
  pair_adds j h a b =
      let at : i + 1 + (j - (i + 1)) ≡ j = omega arith in
      let next : suc (j - (i + 1)) ≡ j + 1 - (i + 1) = omega arith in
      renamed (ap (λ (k : ℕ). row_lines p i (j - (i + 1)) ++ line_of p i k) (sym at) ∙ ap (row_lines p i) next) (adds-adds a b)

-- and before the first there are none
pub row_none : (p : Pairs) (i count : ℕ) (page : Page) → count ≡ 0 → AddsOn (row_lines p i count) page page
unfolding row_lines
row_none p i count page e = rw e (adds_none page)

pub lines_none : (p : Pairs) (count : ℕ) (page : Page) → count ≡ 0 → AddsOn (lines_below p count) page page
unfolding pair_lines
lines_none p count page e = rw e (adds_none page)
