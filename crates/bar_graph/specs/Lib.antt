pub mod Bars
pub mod Axis
pub mod Raised
