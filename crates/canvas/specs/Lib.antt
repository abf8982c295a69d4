pub mod Sizes
pub mod Colour
pub mod Canvas
