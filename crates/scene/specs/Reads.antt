-- What the reader promises: its answer and every entry of every area.
use Rattle.std.specs.Prelude.{◌≡◌, List, ℕ, Result}
use Rattle.relation.specs.Sets.{universal}
use Rattle.answer.specs.Ending.{Ending, accepted, refused, answered}
use Rattle.filing.specs.Said.{Said}
use Rattle.filing.specs.Areas.{Areas, filled, cleared}
use Rattle.scene.specs.Reading.{read_of}
use Rattle.scene.specs.Numbers.{answer_of}
use Rattle.scene.specs.declared.Unread.{Unread}

-- a cell before any statement
abbrev pub starting_cell : ℕ → ℕ → ℕ
starting_cell i j = universal

-- the areas after a reading
unfoldable pub areas_after : Ending Said → Areas → Areas
areas_after (accepted said count) areas = filled starting_cell said areas
areas_after (refused numbers) areas = cleared numbers.number areas

-- what `read` promises of the answer and of the areas, before and after
pub record Reads (scene : List ℕ) (before after : Areas) (reading : Result ℕ Unread) : Type 0 where
  pub answer : answer_of reading ≡ answered (read_of scene before)
  pub areas : after ≡ areas_after (read_of scene before) before
