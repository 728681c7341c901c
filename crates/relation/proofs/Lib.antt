-- tests, members of a set, the union over members
pub mod Tests
pub mod Member
pub mod Over
-- the one test over the 64 compositions
pub mod Entries
-- the laws of sets, of the converse and of composition
pub mod Within
pub mod Size
pub mod ConverseLaws
pub mod CompositionLaws
-- no second answer meets a contract
pub mod Unique
