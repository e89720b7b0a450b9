pub mod Facts
pub mod FactRows
pub mod Named
pub mod FactLoads
pub mod FactExamples
