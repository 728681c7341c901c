pub mod Planes
pub mod Calls
pub mod Inner
