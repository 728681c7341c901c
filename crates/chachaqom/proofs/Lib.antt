-- identifiers and marks as bytes
pub mod Crossed
pub mod Laying
-- what the exports promise, by the ways they can go
pub mod Promised
pub mod Written
-- no second answer meets a contract, and the bytes of answers and marks lose nothing
pub mod Unique
pub mod Wide
pub mod MarksCross
-- demand 3 about the call for C
pub mod DemandThree
-- rounds a few at a time about the calls for C
pub mod RunCalls
pub mod SharedOutExports
-- the round trip about the calls for C
pub mod RoundTrip
