pub mod Moves
pub mod Writes
