pub mod Runs
pub mod Rows
pub mod Columns
pub mod Edges
pub mod Examples
pub mod Footprint
