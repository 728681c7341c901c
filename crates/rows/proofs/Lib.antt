pub mod Flipping
pub mod Turning
pub mod Placing
pub mod Unique
