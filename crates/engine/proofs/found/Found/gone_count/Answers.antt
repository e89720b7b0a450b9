use Rattle.std.proofs.Common.{◌≡◌, ◌∙◌, length, map, arith, rules, length-drop}
use Rattle.std.proofs.lemmas.Iterator.{YieldsList-from_map, YieldsList-from_slice, YieldsList-from_zip}
use Rattle.std.proofs.lemmas.Iterator.Consumers.{YieldsList-at, YieldsList-from_filter, sum_by_from_yields_List}
use borrow.Author.Tests.{tests}
use Rattle.lists.specs.Held.{held}
use Rattle.lists.proofs.Held.{held-count}
use Rattle.rules.specs.Rules.{rule_seen}
use Rattle.machine.specs.Machine.{gone_alls}
use Rattle.engine.proofs.Takings.{counted, gone-sum, gone-few}
use Rattle.engine.proofs.found.Found.gone_count.Goals as goal

by_alls : (c : goal.After-dropped) → c.sum-by_alls.result ≡ length (gone_alls (rule_seen c.args.self.rule.now).alls (map held c.args.taken.now))
by_alls c =
    sum_by_from_yields_List counted _ c.map.result c.sum-by_alls.result c.sum-by_alls.ensures.ran
    (YieldsList-from_map _ counted
    (YieldsList-at c.map.ensures.source
    (YieldsList-from_filter _ (λ p. p.0.drops)
    (YieldsList-at c.filter.ensures.source
    (YieldsList-from_zip (YieldsList-from_slice (held c.args.self.rule.now.alls) cc) (YieldsList-from_slice c.args.taken.now cc)))
    c.filter.ensures.closure (λ x b q k. search (rules, tests))))
    c.map.ensures.closure (λ x r q k. search (rules, tests)))
    ∙ gone-sum (held c.args.self.rule.now.alls) c.args.taken.now

pub overflow_add-result : goal.overflow_add-result
overflow_add-result c =
    let r = c.args.self.rule.now in
    let two : length c.args.taken.now ≡ 2 = search rules in
    omega (arith, two, by_alls c, gone-few (rule_seen r).alls c.args.taken.now, c.dropped.ensures.count, r.singles.few)

pub returns : goal.returns
returns c =
    let r = c.args.self.rule.now in
    omega (arith, by_alls c, c.dropped.ensures.count, length-drop r.keep_count (held r.singles), held-count r.singles)
