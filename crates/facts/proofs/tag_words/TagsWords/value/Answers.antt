use Rattle.std.proofs.Common.{rules}
use Rattle.facts.specs.Sets.{joined_as_sets}
use Rattle.facts.proofs.tag_words.TagsWords.value.Goals as goal

pub returns-clause-sets : goal.returns-clause-sets
returns-clause-sets c = joined_as_sets c.args.operator c.args.left c.args.right _ (search rules)
