-- no second answer meets the contract
pub mod Unique
