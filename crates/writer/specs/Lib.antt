pub mod Scene
pub mod Writing
pub mod Numbers
pub mod Writes
pub mod Writable
pub mod RoundTrip
pub mod Inner
