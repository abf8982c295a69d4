pub mod Records
pub mod Written
pub mod Seams
pub mod Append
pub mod Delete
pub mod Kept
pub mod Rules
pub mod Meaning
