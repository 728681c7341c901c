-- how a call ends
pub mod Stops
-- the 20 bytes
pub mod AnswerBytes
pub mod Exporting
-- no second answer meets a contract
pub mod Unique
