pub mod Facts
pub mod FactScan
pub mod FactRefusals
pub mod FactExamples
