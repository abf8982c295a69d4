pub mod Checks
pub mod Bitmaps
pub mod Fonts
