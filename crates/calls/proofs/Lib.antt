pub mod Examples
pub mod LineCalls
pub mod Lists
pub mod Inside
pub mod Demands
