-- what the functions inside make and find
pub mod Searches
pub mod AreaLaws
pub mod Endings
pub mod Prepared
pub mod Running
pub mod InPlanes
pub mod Left
-- the lent areas and the part handed back
pub mod Fronts
pub mod Handing
-- the verdict's numbers, and no second answer
pub mod Verdicts
pub mod Unique
-- the whole from its two calls
pub mod Whole
-- rounds a few at a time
pub mod RunAfterRun
pub mod SharedOutCalls
pub mod CallsFinish
pub mod NeverUnprepared
-- demand 3 about the calls, and what follows
pub mod Demand3
pub mod Consequences
pub mod SameArcs
