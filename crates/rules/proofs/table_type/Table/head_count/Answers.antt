use Rattle.std.proofs.Common.{length, ◌∙◌, rules}
use Rattle.std.proofs.lemmas.Iterator.{YieldsList-from_map, YieldsList-from_slice}
use Rattle.std.proofs.lemmas.Iterator.Consumers.{YieldsList-at, sum_by_from_yields_List}
use borrow.Author.Tests.{tests}
use Rattle.lists.specs.Held.{held}
use Rattle.rules.proofs.Heads.{heads-sum}
use Rattle.rules.proofs.table_type.Table.head_count.Goals as goal

pub returns : goal.returns
returns c =
    sum_by_from_yields_List (λ r. length (held r.singles)) (held c.args.self.now.rules) _ c.sum.result c.sum.ensures.ran (YieldsList-from_map _ (λ r. length (held r.singles)) (YieldsList-at c.map.ensures.source (YieldsList-from_slice (held c.args.self.now.rules) cc)) c.map.ensures.closure (λ x b q k. search (rules, tests)))
    ∙ heads-sum (held c.args.self.now.rules)
