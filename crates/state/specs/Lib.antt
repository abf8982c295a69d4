pub mod Editions
pub mod Commands
pub mod State
pub mod Soundness
pub mod Canonical
pub mod Fits
