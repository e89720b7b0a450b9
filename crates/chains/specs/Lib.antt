pub mod Links
pub mod Rows
pub mod Acts
