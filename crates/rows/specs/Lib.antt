pub mod Csv
pub mod Numbers
pub mod Fields
pub mod Refusals
