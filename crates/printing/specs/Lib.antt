pub mod Print
pub mod Checks
pub mod Ends
pub mod Files
