pub mod Heights
pub mod Strokes
pub mod Lent
pub mod Footprint
