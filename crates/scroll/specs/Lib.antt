pub mod Scroll
