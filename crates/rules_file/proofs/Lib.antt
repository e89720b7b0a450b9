pub mod RuleExamples
pub mod NamedRules
pub mod RuleFields
pub mod RuleLines
pub mod RuleStages
pub mod RulesBuilt
pub mod RulesWere
pub mod RulesWritten
