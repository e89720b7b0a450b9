use Rattle.std.proofs.Common.{◌∙◌, rules, sym}
use Rattle.std.proofs.lemmas.Iterator.{YieldsList-from_slice}
use Rattle.std.proofs.lemmas.Iterator.Search.{any_from_yields_List}
use borrow.Author.Tests.{tests}
use Rattle.lists.specs.Held.{held}
use Rattle.rules.specs.Rules.{rule_seen}
use Rattle.rules.specs.Closed.{names}
use Rattle.rules.proofs.Anys.{list_any-is, any-map}
use Rattle.rules.proofs.table_type.Table.names_kind.Goals as goal

pub returns : goal.returns
returns c =
    any_from_yields_List (λ r. names c.args.kind (rule_seen r)) _ _ c.any.result c.any.ensures.ran (YieldsList-from_slice (held c.args.self.now.rules) cc) (λ x b q k. search (rules, tests))
    ∙ list_any-is (λ r. names c.args.kind (rule_seen r)) (held c.args.self.now.rules)
    ∙ sym (any-map (names c.args.kind) rule_seen (held c.args.self.now.rules))
