pub mod Bitmaps
pub mod Inline
pub mod Pairs
