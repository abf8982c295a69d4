pub mod Walk
pub mod Examples
pub mod Footprint
