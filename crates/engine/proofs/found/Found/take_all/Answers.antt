use Rattle.std.proofs.Common.{arith}
use Rattle.lists.specs.Held.{held}
use Rattle.rules.specs.Rules.{rule_seen}
use Rattle.engine.specs.Letters.{setting_in}
use Rattle.engine.specs.Taking.{all_taken}
use Rattle.engine.proofs.Takings.{took-more}
use Rattle.engine.proofs.found.Found.take_all.Goals as goal

pub loop-index-preserved : goal.loop-index-preserved
loop-index-preserved g c =
    let chosen = held c.args.self.choice.now.labels in
    let ts = all_taken g.W.Words.system (setting_in c.args.self.choice.now.letters) (rule_seen c.args.self.rule.now) chosen (g.S.Store.meaning c.args.store.now).pairs in
    let l = c.loop-index in
    let more = took-more l.taken l.index _ ts l.invariant.wide (omega (arith, c.loop-index-test.true, l.invariant.wide)) l.invariant.took c.take_at.ensures in
    record { wide = more.0; took = more.1 }
