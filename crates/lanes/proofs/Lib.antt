-- lists and numbers by their entries and bits
pub mod Lists
pub mod Made
pub mod Unions
pub mod Sets
-- the wiring of a relation
pub mod Wiring
-- the bits of a word and their places
pub mod Shifts
pub mod Digits
pub mod LowestBit
pub mod InTurn
pub mod Going
-- no second answer
pub mod Unique
