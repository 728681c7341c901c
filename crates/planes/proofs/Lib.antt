-- the blocks of planes, and cells into planes and back
pub mod Laying
pub mod Blocks
pub mod Crossing
-- no second answer
pub mod Unique
