use Rattle.std.proofs.Common.{◌∙◌}
use Rattle.rules_file.proofs.RuleExamples.{files_of_rules, looped-rules}
use Rattle.reader.proofs.rule_examples.load_looped_rules.Goals as goal

pub returns : goal.returns
returns c = record { answer = c.load-rules.ensures.answer ∙ looped-rules c.looped-rules-file.result.now c.looped-rules-file.ensures; computed = files_of_rules }
