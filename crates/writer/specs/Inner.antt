-- What functions inside the crate promise; no public contract cites it.
use Rattle.std.specs.Prelude.{◌≡◌, ℕ, ◌+◌, List, length}
use Rattle.std.proofs.lemmas.List.Edits.{sets}
use Rattle.writer.specs.Scene.{statement_records}

-- the statements of the first `count` cells are put from a start on, and end before `at`
pub record Put (n count : ℕ) (identifiers cells before : List ℕ) (start : ℕ) (after : List ℕ) (at : ℕ) : Type 0 where
  pub bytes : after ≡ sets before start (statement_records count n identifiers cells)
  pub end : at ≡ start + length (statement_records count n identifiers cells)
