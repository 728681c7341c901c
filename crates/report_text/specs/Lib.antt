pub mod Class
pub mod Rule
pub mod Words
pub mod Report
pub mod Letters
pub mod Directions
pub mod Contradicts
pub mod Inner
