pub mod Files
pub mod Moves
