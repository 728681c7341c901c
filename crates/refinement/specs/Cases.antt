-- The twelve cases of document 01 as rows of a single table, and one case more with four regions; when a row comes out right.
use Rattle.std.specs.Prelude.{Bool, true, false, ◌&&◌, List, [], ◌∷◌, ℕ, ◌+◌, ◌*◌, eqb, set, replicate}
use Rattle.answer.specs.Answer.{Answer, answer}
use Rattle.answer.specs.Ending.{Ending, accepted, refused}
use Rattle.relation.specs.Sets.{universal}
use Rattle.matrix.specs.Cells.{cell}
use Rattle.refinement.specs.Refine.{refined}

-- (row, column) = set
pub data Entry : Type 0 where
  is : ℕ → ℕ → ℕ → Entry

-- accepted with these cells and a count, or refused with these numbers
pub data Expected : Type 0 where
  accepts : List Entry → ℕ → Expected
  refuses : Answer → Expected

pub record Case : Type 0 where
  pub regions : ℕ
  pub stated : List Entry
  pub answer : Expected

-- the cells with the stated entries
unfoldable pub state : ℕ → List Entry → List ℕ → List ℕ
state n [] m = m
state n (is i j s ∷ entries) m = state n entries (set m (i * n + j) s)

unfoldable pub has_entries : ℕ → List ℕ → List Entry → Bool
has_entries n m [] = true
has_entries n m (is i j s ∷ entries) = eqb (cell n m i j) s && has_entries n m entries

unfoldable pub same_numbers : Answer → Answer → Bool
same_numbers a b =
    eqb a.number b.number
    && (eqb a.first b.first && (eqb a.second b.second && (eqb a.third b.third && eqb a.count b.count)))

unfoldable pub meets_expected : ℕ → Expected → Ending (List ℕ) → Bool
meets_expected n (accepts entries count) (accepted m rounds) = eqb count rounds && has_entries n m entries
meets_expected n (accepts entries count) (refused numbers) = false
meets_expected n (refuses expected) (accepted m rounds) = false
meets_expected n (refuses expected) (refused numbers) = same_numbers expected numbers

-- the call answers as the row expects; cells not given are universal
unfoldable pub right : Case → Bool
right c =
    let n : ℕ = c.regions in
    let m : List ℕ = state n c.stated (replicate (n * n) universal) in
    meets_expected n c.answer (refined n m (n * n) (n * n))

unfoldable pub all_right : List Case → Bool
all_right [] = true
all_right (c ∷ cs) = right c && all_right cs

unfoldable pub case : ℕ → List Entry → Expected → Case
case n stated answer = record { regions = n; stated = stated; answer = answer }

unfoldable pub cases : List Case
cases =
    case 1 (is 0 0 255 ∷ []) (accepts (is 0 0 4 ∷ []) 0)
    ∷ case 1 (is 0 0 251 ∷ []) (refuses (answer 21 0 0 0 0))
    ∷ case 2 (is 0 1 8 ∷ []) (accepts (is 1 0 32 ∷ []) 0)
    ∷ case 2 (is 0 1 8 ∷ is 1 0 8 ∷ []) (refuses (answer 22 0 1 0 0))
    ∷ case 2 (is 0 1 24 ∷ is 1 0 33 ∷ []) (accepts (is 0 1 8 ∷ is 1 0 32 ∷ []) 0)
    ∷ case 3 (is 0 1 8 ∷ is 1 2 8 ∷ []) (accepts (is 0 2 8 ∷ []) 1)
    ∷ case 3 (is 0 1 32 ∷ is 1 2 32 ∷ is 0 2 2 ∷ []) (refuses (answer 23 0 2 1 1))
    ∷ case 4 (is 0 1 8 ∷ is 1 2 8 ∷ is 2 3 8 ∷ []) (accepts (is 0 3 8 ∷ []) 2)
    ∷ case 3 (is 0 1 2 ∷ is 1 2 2 ∷ []) (accepts (is 0 2 215 ∷ []) 1)
    ∷ case 3 (is 0 1 2 ∷ is 1 2 32 ∷ []) (accepts (is 0 2 1 ∷ []) 1)
    ∷ case 3 []
    (accepts
    (is 0 0 4 ∷ is 0 1 255 ∷ is 0 2 255 ∷ is 1 0 255 ∷ is 1 1 4 ∷ is 1 2 255 ∷ is 2 0 255 ∷ is 2 1 255 ∷ is 2 2 4 ∷ []) 0)
    ∷ case 0 [] (refuses (answer 1 0 0 0 0))
    ∷ case 65 [] (refuses (answer 1 0 0 0 0))
    ∷ []

unfoldable pub four_regions : List Case
four_regions =
    case 4 (is 0 2 64 ∷ is 0 3 2 ∷ is 1 2 2 ∷ is 1 3 16 ∷ is 2 3 129 ∷ []) (refuses (answer 23 2 1 3 1)) ∷ []
