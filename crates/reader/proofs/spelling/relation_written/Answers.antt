use Rattle.std.proofs.Common.{◌∙◌}
use Rattle.rules_file.specs.RuleRows.{relation_spelled, every_relation, relation}
use Rattle.reader.proofs.Spellings.{spelled}
use Rattle.reader.proofs.spelling.relation_written.Goals as goal

pub returns : goal.returns
unfolding relation
returns c = c.find_spelled.ensures ∙ spelled relation_spelled every_relation c.args.text.now
