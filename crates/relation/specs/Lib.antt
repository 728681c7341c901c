pub mod Relations
pub mod Sets
pub mod Converse
pub mod Composition
pub mod Lent
