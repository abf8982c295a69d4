pub mod Revised
