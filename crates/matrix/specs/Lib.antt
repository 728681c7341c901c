pub mod Square
pub mod Cells
pub mod Inner
