pub mod Places
pub mod Sources
