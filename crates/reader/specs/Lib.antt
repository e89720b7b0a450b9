pub mod RuleScan
pub mod FileRules
