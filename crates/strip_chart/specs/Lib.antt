pub mod Strips
pub mod Walk
