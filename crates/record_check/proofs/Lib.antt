pub mod Standing
pub mod Testing
pub mod SetUp
pub mod Deciding
