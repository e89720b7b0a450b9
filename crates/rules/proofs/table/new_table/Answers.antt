use Rattle.std.proofs.Common.{List, ap, ◌∙◌}
use Rattle.std.specs.List.{slice_get}
use Rattle.rules.specs.declared.rule_types.RuleRecord.{RuleRecord}
use Rattle.rules.specs.Writing.{rule_in}
use Rattle.rules.proofs.Tables.{blank-everywhere}
use Rattle.rules.proofs.table.new_table.Goals as goal

pub invariant_of-result : goal.invariant_of-result
invariant_of-result c = record { blank = λ i h. ap (λ (xs : List RuleRecord). rule_in (slice_get xs i)) c.new.ensures.items ∙ blank-everywhere c.blank_rule.result 32 i c.blank_rule.ensures }
