-- the rules
pub mod Node
pub mod Arc
pub mod Prepare
pub mod Round
pub mod Step
pub mod Refine
pub mod Run
-- what rounds start from
pub mod Plain
-- what a call within its limits has
pub mod InRange
-- what the theorems say of an ending
pub mod Network
pub mod Ends
pub mod Unstated
pub mod Renumbering
pub mod Cases
