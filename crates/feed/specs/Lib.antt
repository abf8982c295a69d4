pub mod Faults
pub mod Called
pub mod Running
