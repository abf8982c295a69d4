pub mod Rise
pub mod Steps
pub mod Tracing
pub mod Ends
pub mod Examples
pub mod Footprint
