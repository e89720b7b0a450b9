use Rattle.std.proofs.Common.{rules}
use Rattle.facts.specs.Sets.{compared_as_sets}
use Rattle.facts.proofs.tag_words.TagsWords.holds.Goals as goal

pub returns-clause-sets : goal.returns-clause-sets
returns-clause-sets c = compared_as_sets c.args.relation c.args.left c.args.right _ (search rules)
