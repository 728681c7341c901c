pub mod Said
pub mod Places
pub mod Stated
pub mod Marks
pub mod Turned
pub mod Areas
pub mod Inner
pub mod LentAreas
