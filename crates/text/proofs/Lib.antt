-- what is put, decimal numbers, lines
pub mod PutLaws
pub mod Adding
pub mod DecimalLaws
pub mod LineLaws
-- no second answer meets a contract
pub mod Unique
