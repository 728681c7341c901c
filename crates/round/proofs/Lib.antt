-- all lanes of a block, and what each relation gives with a row
pub mod Wires
pub mod Narrowing
pub mod Lanes
pub mod Going
-- the blocks of a round
pub mod LivePlaces
pub mod Rounding
pub mod Turning
pub mod Serving
-- no second answer
pub mod Unique
-- that it is the round of the rules
pub mod Live
pub mod SameRound
pub mod Steps
