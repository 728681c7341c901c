-- going by cases, sums, the least entry that passes a test
pub mod Splits
pub mod Sums
pub mod LeastLaws
pub mod Found
-- a list by a rule for its entries
pub mod TabledLaws
-- areas filled in front
pub mod LaidLaws
pub mod Filling
-- numbers as bytes
pub mod BigEndianLaws
-- no second answer meets a contract
pub mod Unique
