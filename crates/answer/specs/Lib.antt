pub mod Answer
pub mod Ending
pub mod Told
pub mod Bytes
