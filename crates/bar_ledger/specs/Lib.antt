pub mod Ledger
pub mod Claim
pub mod Since
