pub mod Examples
pub mod Footprint
pub mod Inline
pub mod Pairs
pub mod Strips
