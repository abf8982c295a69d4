pub mod Memory
pub mod Feed
pub mod Start
pub mod Line
pub mod List
pub mod Bytes
pub mod Served
