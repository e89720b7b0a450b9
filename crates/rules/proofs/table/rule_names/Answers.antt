use Rattle.std.proofs.Common.{nat_eq, ◌∙◌, rules, sym}
use Rattle.std.proofs.lemmas.Iterator.{YieldsList-from_slice}
use Rattle.std.proofs.lemmas.Iterator.Search.{any_from_yields_List}
use borrow.Author.Tests.{tests}
use Rattle.lists.specs.Held.{held}
use Rattle.rules.specs.Rules.{all_seen}
use Rattle.rules.proofs.Anys.{list_any-is, any-map}
use Rattle.rules.proofs.table.rule_names.Goals as goal

pub returns : goal.returns
returns c =
    any_from_yields_List (λ a. nat_eq a.pattern.kind c.args.kind) _ _ c.any.result c.any.ensures.ran (YieldsList-from_slice (held c.args.rule.now.alls) cc) (λ x b q k. search (rules, tests))
    ∙ list_any-is (λ a. nat_eq a.pattern.kind c.args.kind) (held c.args.rule.now.alls)
    ∙ sym (any-map (λ a. nat_eq a.pattern.kind c.args.kind) all_seen (held c.args.rule.now.alls))
