-- A row of at most 64 cells as eight words, cell j in lane j, and back.
use Rattle.std.specs.Prelude.{ℕ, cond, List, leb, length, get_or}
use Rattle.relation.specs.Sets.{has, universal}
use Rattle.lanes.specs.Lists.{list_of, mask_of}
use Rattle.lanes.specs.Words.{set_at}

-- the words of a row of cells; a lane past its end has the universal set
unfoldable pub row_words : List ℕ → List ℕ
row_words cells = list_of 8 (λ r. mask_of 64 (λ j. has (get_or cells j universal) r))

-- the first n lanes as cells
unfoldable pub row_cells : ℕ → List ℕ → List ℕ
row_cells n words = list_of n (λ j. set_at words j)

-- what the cells of a row become: the first lanes, as many as there are cells; more than 64 cells stay as they are
unfoldable pub row_after : List ℕ → List ℕ → List ℕ
row_after words cells = cond (leb (length cells) 64) (row_cells (length cells) words) cells
