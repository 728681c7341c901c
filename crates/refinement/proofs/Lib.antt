-- the rules' cells, the searches that decide, and what is left to lose
pub mod Stages
pub mod RanOut
pub mod Slack
pub mod Preparing
pub mod Stepping
-- what ends the rounds, and where a loop over them stands
pub mod Loop
pub mod Limits
-- demand 2: the ending is right, the limit never ends it, the document's cases come out
pub mod Ending
pub mod Cases
-- demand 3
pub mod Demand
-- what follows from them
pub mod Consequences
pub mod Renumber
pub mod ArcStage
-- rounds a few at a time
pub mod Readied
pub mod PlainTest
pub mod Sharing
