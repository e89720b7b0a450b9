use Rattle.std.proofs.Common.{◌≡◌, map}
use Rattle.lists.specs.Held.{held}
use Rattle.rules.specs.Rules.{all_seen, rule_seen}
use Rattle.stores.specs.Piles.{with_pairs}
use Rattle.stores.specs.Store.{without}
use Rattle.machine.specs.Machine.{gone_alls}
use Rattle.engine.proofs.found.Found.remove_gone.Given as goal

abbrev pub invariant-loop-all : goal.invariant-loop-all
invariant-loop-all g l =
    let was = g.S.Store.meaning l.initial.store in
    let now = g.S.Store.meaning l.store in
    let alls = l.all-iterator.a.rest.now in
    let taken = l.all-iterator.b.rest.now in
    with_pairs was (without (gone_alls (rule_seen l.self.rule.now).alls (map held l.taken)) was.pairs) ≡ with_pairs now (without (gone_alls (map all_seen alls) (map held taken)) now.pairs)
