pub mod Least
pub mod Laid
pub mod Tabled
pub mod BigEndian
