use Rattle.std.proofs.Common.{◌≡◌, length, map, take}
use Rattle.lists.specs.Held.{held}
use Rattle.rules.specs.Rules.{rule_seen}
use Rattle.stores.specs.Store.{labels}
use Rattle.engine.specs.Letters.{setting_in}
use Rattle.engine.specs.Taking.{all_taken, two}
use Rattle.engine.proofs.found.Found.take_all.Given as goal

abbrev pub invariant-loop-index : goal.invariant-loop-index
invariant-loop-index g l =
    let chosen = held l.self.choice.now.labels in
    let ts = all_taken g.W.Words.system (setting_in l.self.choice.now.letters) (rule_seen l.self.rule.now) chosen (g.S.Store.meaning l.store).pairs in
    record { wide : length l.taken ≡ 2; took : map held (take l.index l.taken) ≡ take l.index (map labels (two ts)) }
