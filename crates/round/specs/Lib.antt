pub mod Round
pub mod Onward
pub mod Calls
pub mod Inner
