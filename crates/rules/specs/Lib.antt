pub mod Rules
pub mod Tables
pub mod Writing
pub mod Closed
pub mod Sets
