-- one record: its number, why it is judged as it is, and what was read and found as its judgement
pub mod Numbered
pub mod Reasons
pub mod Judging
-- all records: how far they come, and how a reading ends
pub mod Reached
pub mod Endings
-- what an accepted scene is like, in the author's words
pub mod Different
pub mod Filed
pub mod Marked
pub mod Small
-- what a refused one is like
pub mod Behind
pub mod Spanning
-- the calls: what they leave is what they promise, and what that tells a caller
pub mod Going
pub mod Promised
pub mod Answers
pub mod Parts
-- no second answer meets a contract
pub mod Unique
-- demand 1 about the call
pub mod Demand1
-- the document's example
pub mod Examples
