-- What the public calls promise of their answers and of every lent area.
use Rattle.std.specs.Prelude.{ℕ, ◌*◌, ◌/◌, Bool, cond, ◌&&◌, List, eqb, leb, ltb, length, replicate}
use Rattle.std.proofs.Math.Seq.{paste}
use Rattle.planes.specs.Planes.{block_of, blocks_of, matrix_planes, planes_matrix}

-- n is from 1 to 64
abbrev pub ranges : ℕ → Bool
ranges n = leb 1 n && leb n 64

-- so many words are the planes of n regions
abbrev pub holds : ℕ → ℕ → Bool
holds n words = eqb words (8 * blocks_of n)

-- ---- between cells and planes

-- n is in range, there are n² cells, and the words are the planes of n regions
abbrev pub serves_cells : ℕ → ℕ → ℕ → Bool
serves_cells n cells planes = ranges n && (eqb cells (n * n) && holds n planes)

-- the planes after the cells of n regions are taken; where n or a length does not serve they stay as they are
unfoldable pub taken : ℕ → List ℕ → List ℕ → List ℕ
taken n cells planes = cond (serves_cells n (length cells) (length planes)) (matrix_planes n cells) planes

-- the cells after planes are given back; where n or a length does not serve they stay as they are
unfoldable pub given : ℕ → List ℕ → List ℕ → List ℕ
given n planes cells = cond (serves_cells n (length cells) (length planes)) (planes_matrix n planes) cells

-- ---- the blocks of planes

-- there is a block b among so many words
abbrev pub has_block : ℕ → ℕ → Bool
has_block words b = ltb b (words / 8)

-- block b; eight empty words where there is none
unfoldable pub loaded : List ℕ → ℕ → List ℕ
loaded planes b = cond (has_block (length planes) b) (block_of planes b) (replicate 8 0)

-- the words after eight are put as block b, if there is such a block
unfoldable pub stored : List ℕ → ℕ → List ℕ → List ℕ
stored planes b words = cond (has_block (length planes) b) (paste planes (8 * b) words 8) planes
