pub mod Whole
pub mod One
