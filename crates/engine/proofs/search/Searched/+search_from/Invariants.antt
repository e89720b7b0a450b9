use Rattle.std.proofs.Common.{◌≡◌, ◌-◌, length}
use Rattle.lists.specs.Held.{held}
use Rattle.rules.specs.Rules.{rule_seen}
use Rattle.engine.specs.Searching.{found_from, found_above}
use Rattle.engine.proofs.search.Searched.+search_from.Given as goal

abbrev pub decreases-search_from : goal.decreases-search_from
decreases-search_from g l = l.self.now.rule.now.singles.count - length (held l.choice.now.labels)

abbrev pub invariant-loop-label : goal.invariant-loop-label
invariant-loop-label g l =
    found_from g.W.Words.system (rule_seen l.self.rule.now) l.self.place l.self.active (g.S.Store.meaning l.self.store.now).pairs (held l.choice.labels)
    ≡ found_above g.W.Words.system (rule_seen l.self.rule.now) l.self.place l.self.active (g.S.Store.meaning l.self.store.now).pairs (held l.choice.labels) l.above

abbrev pub decreases-loop-label : goal.decreases-loop-label
decreases-loop-label g l = 4294967296 - l.above
