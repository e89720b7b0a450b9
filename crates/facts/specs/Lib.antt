pub mod System
pub mod Lengths
pub mod Tags
pub mod WordExamples
pub mod Sets
pub mod Kinds
