pub mod Axis
pub mod Writes
pub mod Stripes
pub mod FullPictures
pub mod Examples
pub mod Ways
pub mod Lent
