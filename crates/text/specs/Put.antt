-- Putting a text into a lent buffer.
use Rattle.std.specs.Prelude.{◌≡◌, ℕ, ◌+◌, ◌≤◌, Bool, cond, List, ◌++◌, leb, length, take, drop}
use Rattle.text.specs.declared.Page.{Page}

-- the text has room in the buffer from a place on
abbrev pub room : List ℕ → ℕ → List ℕ → Bool
room buffer at text = leb (at + length text) (length buffer)

-- the buffer with the text at an offset, and all other bytes as they were
unfoldable pub overwritten : List ℕ → ℕ → List ℕ → List ℕ
overwritten buffer at text = take at buffer ++ text ++ drop (at + length text) buffer

-- what putting a text at an offset promises: it stands there and the next offset is behind it; without room nothing is written
-- and the next place is the same
pub record Puts (text buffer : List ℕ) (at : ℕ) (buffer' : List ℕ) (next : ℕ) : Type 0 where
  pub written : buffer' ≡ cond (room buffer at text) (overwritten buffer at text) buffer
  pub behind : next ≡ cond (room buffer at text) (at + length text) at

-- what putting a text in several parts promises: where there is room for all of it, it stands there and the next place is behind it
pub record Adds (text buffer : List ℕ) (at : ℕ) (buffer' : List ℕ) (next : ℕ) : Type 0 where
  pub written : at + length text ≤ length buffer → buffer' ≡ overwritten buffer at text
  pub behind : at + length text ≤ length buffer → next ≡ at + length text

-- the same of a page, which stays on the buffer that it was lent
pub record PutsOn (text : List ℕ) (page page' : Page) : Type 0 where
  pub same_reference : page'.buffer.ghost_name ≡ page.buffer.ghost_name
  pub puts : Puts text page.buffer.now page.at page'.buffer.now page'.at

pub record AddsOn (text : List ℕ) (page page' : Page) : Type 0 where
  pub same_reference : page'.buffer.ghost_name ≡ page.buffer.ghost_name
  pub adds : Adds text page.buffer.now page.at page'.buffer.now page'.at
