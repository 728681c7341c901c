-- What reading into a space promises, of the bytes that the reader has left before and after, where those are known.
use Rattle.std.specs.Prelude.{ℕ, ◌<◌, ◌≤◌, Option, List, length, take}
use Rattle.std.specs.Io.KnownBytes.{Consumes, IsAtEnd}

-- the next `count` bytes stand in front of the space, and only the end of input leaves a part of it
pub record Filled (old new : Option (List ℕ)) (space : List ℕ) (count : ℕ) : Type 0 where
  pub within : count ≤ length space
  pub front : Consumes old new (take count space)
  pub end : count < length space → IsAtEnd new
