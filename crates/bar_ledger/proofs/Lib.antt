pub mod Keep
pub mod Theorem
pub mod Since
