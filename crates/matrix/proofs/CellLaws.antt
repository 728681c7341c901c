-- The cells of a matrix by place and by row and column, matrices that are equal by their cells, and what the searches for the
-- first empty and the first changed cell say.
use mathlib.Core.Path.{◌≡◌, sym, ap, ◌∙◌, subst}
use mathlib.Core.Bool.{Bool, true, false, not, true≢false}
use mathlib.Core.List.{List}
use Prim.Native.Nat.{ℕ, zero, suc, ◌+◌, ◌*◌, ◌≤◌, ◌<◌}
use native.Mathlib.Nat.{le_trans, not-suc-le-zero, zero-add, add-zero, mul-le-mul_right}
use native.Mathlib.Nat.{div-lt_iff_lt-mul, div-add-mod', div-eq_of_lt, mod-lt, mod-eq_of_lt, mul-add-div_right, mul-add-mod_self_right}
use native.Mathlib.Omega.{arith}
use lib.Dec.{eqb}
use lib.ListN.{length, get_or, set}
use lib.Seq.{ext_get_or}
use borrow.Author.Tests.{eqb-true, eqb-false, eq-eqb, ne_eqb, le-leb, lt-leb, lt-ltb, not-true, not-false}
use Rattle.lists.specs.Least.{least}
use Rattle.lists.proofs.Splits.{split_lt}
use Rattle.lists.proofs.LeastLaws.{least-is}
use Rattle.lists.proofs.TabledLaws.{length-tabled, get_or-tabled}
use Rattle.relation.specs.Sets.{intersect}
use Rattle.matrix.specs.Square.{in_range, has_square}
use Rattle.matrix.specs.Cells.{cell, row, column, grid, first_empty, first_change, cell_or_empty, narrowed_cells}

-- ---- places, rows and columns

-- a cell's place is below n², and its row and column are the cell's
pub place_lt : (n i j : ℕ) → i < n → j < n → i * n + j < n * n
place_lt n i j hi hj = omega (arith, mul-le-mul_right n hi)

pub place_div : (n i j : ℕ) → j < n → row n (i * n + j) ≡ i
place_div n i j h = mul-add-div_right {m = n} (omega arith) i j ∙ ap (λ (x : ℕ). i + x) (div-eq_of_lt h) ∙ add-zero i

pub place-mod : (n i j : ℕ) → j < n → column n (i * n + j) ≡ j
place-mod n i j h = mul-add-mod_self_right i n j ∙ mod-eq_of_lt h

pub row_lt : (n p : ℕ) → p < n * n → row n p < n
row_lt zero p h = absurd (not-suc-le-zero h)
row_lt (suc n) p h = (div-lt_iff_lt-mul {k = suc n} (omega arith)).1 h

pub column_lt : (n p : ℕ) → p < n * n → column n p < n
column_lt zero p h = absurd (not-suc-le-zero h)
column_lt (suc n) p h = mod-lt p {m = suc n} (omega arith)

-- the place of a row and column is the place that they came from
pub place-back : (n p : ℕ) → row n p * n + column n p ≡ p
place-back n p = div-add-mod' p n

-- a cell of a row above has the lower place
pub place_above : (n i j k l : ℕ) → i < k → j < n → i * n + j < k * n + l
place_above n i j k l h hj = omega (arith, mul-le-mul_right n h)

-- ---- cells

pub length-grid : (n : ℕ) (f : ℕ → ℕ → ℕ) → length (grid n f) ≡ n * n
unfolding grid
length-grid n f = length-tabled (n * n) 0 (λ p. f (row n p) (column n p))

pub at_place : (n : ℕ) (f : ℕ → ℕ → ℕ) (p : ℕ) → p < n * n → get_or (grid n f) p 0 ≡ f (row n p) (column n p)
unfolding grid
at_place n f p h =
    get_or-tabled (n * n) 0 (λ q. f (row n q) (column n q)) p h ∙ ap (λ (q : ℕ). f (row n q) (column n q)) (zero-add p)

pub cell-grid : (n : ℕ) (f : ℕ → ℕ → ℕ) (i j : ℕ) → i < n → j < n → cell n (grid n f) i j ≡ f i j
cell-grid n f i j hi hj =
    at_place n f (i * n + j) (place_lt n i j hi hj)
    ∙ ap (λ (r : ℕ). f r (column n (i * n + j))) (place_div n i j hj)
    ∙ ap (f i) (place-mod n i j hj)

-- what holds at each cell holds at each place
pub by_cell : (n : ℕ) (P : ℕ → Type 0) → ((i j : ℕ) → i < n → j < n → P (i * n + j)) → (p : ℕ) → p < n * n → P p
by_cell n P h p l = subst P (place-back n p) (h (row n p) (column n p) (row_lt n p l) (column_lt n p l))

-- matrices are equal by their cells
pub ext_cell : (n : ℕ) (a b : List ℕ) → length a ≡ n * n → length b ≡ n * n
    → ((i j : ℕ) → i < n → j < n → cell n a i j ≡ cell n b i j) → a ≡ b
ext_cell n a b la lb h =
    ext_get_or 0 a b (la ∙ sym lb) (λ p l. by_cell n (λ (q : ℕ). get_or a q 0 ≡ get_or b q 0) h p (omega arith))

-- a matrix is the grid of its cells, and grids are equal where their cells are
pub grid-cells : (n : ℕ) (m : List ℕ) → length m ≡ n * n → grid n (cell n m) ≡ m
grid-cells n m l = ext_cell n (grid n (cell n m)) m (length-grid n (cell n m)) l (cell-grid n (cell n m))

pub grid-same : (n : ℕ) (f g : ℕ → ℕ → ℕ) → ((i j : ℕ) → i < n → j < n → f i j ≡ g i j) → grid n f ≡ grid n g
grid-same n f g h =
    ext_cell n (grid n f) (grid n g) (length-grid n f) (length-grid n g)
    (λ i j hi hj. cell-grid n f i j hi hj ∙ h i j hi hj ∙ sym (cell-grid n g i j hi hj))

-- ---- the first empty cell

-- it is empty
pub empty_at : (n : ℕ) (m : List ℕ) → first_empty (n * n) m < n * n
    → cell n m (row n (first_empty (n * n) m)) (column n (first_empty (n * n) m)) ≡ 0
unfolding first_empty
empty_at n m h =
    let test : ℕ → Bool = λ p. eqb (get_or m p 0) 0 in
    let p : ℕ = least (n * n) test in
    rw (place-back n p) (eqb-true (get_or m p 0) 0 ((least-is (n * n) test).found h))

-- and none before it is
pub empty-first : (n : ℕ) (m : List ℕ) (i j : ℕ) → i * n + j < first_empty (n * n) m → cell n m i j ≡ 0 → ⊥
unfolding first_empty
empty-first n m i j h e =
    true≢false (sym (eq-eqb (cell n m i j) 0 e) ∙ (least-is (n * n) (λ p. eqb (get_or m p 0) 0)).before (i * n + j) h)

pub no_empty : (n : ℕ) (m : List ℕ) → n * n ≤ first_empty (n * n) m → (i j : ℕ) → i < n → j < n → cell n m i j ≡ 0 → ⊥
no_empty n m h i j hi hj = empty-first n m i j (le_trans (place_lt n i j hi hj) h)

-- where no cell is empty there is no first
pub none-empty : (n : ℕ) (m : List ℕ) → ((i j : ℕ) → i < n → j < n → cell n m i j ≡ 0 → ⊥) → n * n ≤ first_empty (n * n) m
none-empty n m h =
    split_lt (first_empty (n * n) m) (n * n)
    (λ l. absurd (h (row n (first_empty (n * n) m)) (column n (first_empty (n * n) m)) (row_lt n _ l) (column_lt n _ l) (empty_at n m l)))
    (λ l. l)

-- ---- the first change

-- a cell that changed, and its change
pub record Change (n : ℕ) (a b : List ℕ) : Type 0 where
  pub first : ℕ
  pub second : ℕ
  pub first_lt : first < n
  pub second_lt : second < n
  pub differs : cell n a first second ≡ cell n b first second → ⊥

pub no_change : (n : ℕ) (a b : List ℕ) → n * n ≤ first_change (n * n) a b → (i j : ℕ) → i < n → j < n → cell n a i j ≡ cell n b i j
unfolding first_change
no_change n a b h i j hi hj =
    let test : ℕ → Bool = λ p. not (eqb (get_or a p 0) (get_or b p 0)) in
    eqb-true (cell n a i j) (cell n b i j)
    (not-false (eqb (cell n a i j) (cell n b i j))
    ((least-is (n * n) test).before (i * n + j) (le_trans (place_lt n i j hi hj) h)))

pub some_change : (n : ℕ) (a b : List ℕ) → first_change (n * n) a b < n * n → Change n a b
unfolding first_change
some_change n a b h =
    let test : ℕ → Bool = λ p. not (eqb (get_or a p 0) (get_or b p 0)) in
    let p : ℕ = least (n * n) test in
    record {
      first = row n p;
      second = column n p;
      first_lt = row_lt n p h;
      second_lt = column_lt n p h;
      differs = rw (place-back n p)
          (eqb-false (get_or a p 0) (get_or b p 0) (not-true (eqb (get_or a p 0) (get_or b p 0)) ((least-is (n * n) test).found h)));
    }

-- where every cell is the same there is none
pub none_changed : (n : ℕ) (a b : List ℕ) → ((i j : ℕ) → i < n → j < n → cell n a i j ≡ cell n b i j)
    → n * n ≤ first_change (n * n) a b
none_changed n a b h =
    split_lt (first_change (n * n) a b) (n * n)
    (λ l. let z = some_change n a b l in absurd (z.differs (h z.first z.second z.first_lt z.second_lt)))
    (λ l. l)

-- ---- a cell that may not be there

pub cell-there : {n : ℕ} (m : List ℕ) {i j : ℕ} → n ≤ 64 → i < n → j < n → cell_or_empty n m i j ≡ cell n m i j
unfolding cell_or_empty
cell-there {n} m {i} {j} few hi hj = rw (le-leb n 64 few, lt-ltb i n hi, lt-ltb j n hj)

pub narrowed-there : {n : ℕ} (m : List ℕ) {i j : ℕ} (added : ℕ) → n ≤ 64 → i < n → j < n
    → narrowed_cells n m i j added ≡ set m (i * n + j) (intersect (cell n m i j) added)
unfolding narrowed_cells
narrowed-there {n} m {i} {j} added few hi hj = rw (le-leb n 64 few, lt-ltb i n hi, lt-ltb j n hj)

-- ---- how many regions

pub range_holds : (n : ℕ) → in_range n ≡ true → (1 ≤ n) × (n ≤ 64)
unfolding in_range
range_holds n e =
    split_lt n 1 (λ h. absurd (true≢false (sym e ∙ rw (lt-leb 1 n h))))
    (λ some. split_lt 64 n (λ h. absurd (true≢false (sym e ∙ rw (le-leb 1 n some, lt-leb n 64 h)))) (λ few. (some, few)))

pub in_range_lem : (n : ℕ) → 1 ≤ n → n ≤ 64 → in_range n ≡ true
unfolding in_range
in_range_lem n some few = rw (le-leb 1 n some, le-leb n 64 few)

pub has-square : (n : ℕ) (m : List ℕ) → length m ≡ n * n → has_square n m ≡ true
unfolding has_square
has-square n m e = eq-eqb (length m) (n * n) e

pub no_square : (n : ℕ) (m : List ℕ) → (length m ≡ n * n → ⊥) → has_square n m ≡ false
unfolding has_square
no_square n m e = ne_eqb (length m) (n * n) e
