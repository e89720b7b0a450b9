pub mod Csv
pub mod Malformed
pub mod Numbers
pub mod Scans
pub mod Rows
pub mod Outcomes
pub mod Sorted
pub mod Refused
