pub mod Numbers
pub mod Watermarks
pub mod Queue
pub mod Record
pub mod History
