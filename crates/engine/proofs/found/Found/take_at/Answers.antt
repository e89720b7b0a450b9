use Rattle.std.proofs.Common.{take, map, ◌∙◌}
use Rattle.lists.specs.Held.{held}
use Rattle.rules.specs.Rules.{all_seen}
use Rattle.stores.specs.Store.{labels}
use Rattle.engine.specs.Letters.{setting_in}
use Rattle.engine.specs.Taking.{taken_by_head}
use Rattle.engine.proofs.Gets.{item}
use Rattle.engine.proofs.Takings.{took_from}
use Rattle.engine.proofs.found.Found.take_at.Goals as goal

pub returns-in-Some : goal.returns-in-Some
returns-in-Some g c =
    let s = g.W.Words.system in
    let σ = setting_in c.args.self.choice.now.letters in
    let o = c.args.self.rule.now in
    let chosen = held c.args.self.choice.now.labels in
    let ps = (g.S.Store.meaning c.args.store.now).pairs in
    let alls = c.as_slice-alls in
    let e = item o.alls alls.result.now c.args.index alls.ensures.items c.in-Some.all.now c.in-Some.ensures.lookup.0 c.in-Some.ensures.lookup.1 in
    took_from s σ o chosen ps c.args.index c.in-Some.all.now (held c.take.new.taken) e
    (c.take.ensures ∙ (λ i. labels (taken_by_head s σ (map all_seen (take c.args.index (alls.ensures.items i))) (all_seen c.in-Some.all.now) (c.chosen.ensures.labels i) ps)))
