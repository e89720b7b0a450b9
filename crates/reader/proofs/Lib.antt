pub mod Spellings
pub mod RuleCells
pub mod RuleLoops
pub mod RuleSteps
pub mod RuleLoads
