pub mod Lookup
pub mod Named
