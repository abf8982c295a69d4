pub mod Feeding
pub mod Ways
