pub mod Made
pub mod Answers
pub mod Promise
pub mod Examples
pub mod Uploads
