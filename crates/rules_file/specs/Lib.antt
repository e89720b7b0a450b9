pub mod RuleRows
pub mod RuleRefusals
pub mod RulesWritten
pub mod RuleExamples
