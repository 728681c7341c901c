-- which place an identifier names
pub mod PlaceLaws
-- what statements make of a cell
pub mod StatedLaws
pub mod TurnedLaws
pub mod MarkLaws
-- the areas: their lengths, padded lists, packed rows, and what they hold while statements are filed
pub mod Lending
pub mod Padded
pub mod Packing
pub mod PackingFilled
pub mod Marking
pub mod Held
-- no second answer meets a contract
pub mod Unique
