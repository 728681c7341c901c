pub mod Lists
pub mod Words
pub mod Places
pub mod Going
pub mod Inner
