-- looking an identifier up
pub mod LookupLaws
-- no second answer meets a contract
pub mod Unique
