pub mod Outcome
pub mod Contract
