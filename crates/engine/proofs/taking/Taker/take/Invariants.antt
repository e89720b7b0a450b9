use Rattle.std.proofs.Common.{◌≡◌, ◌-◌, map}
use Rattle.lists.specs.Held.{held}
use Rattle.rules.specs.Rules.{all_seen}
use Rattle.engine.proofs.Takings.{taken_to}
use Rattle.engine.proofs.taking.Taker.take.Given as goal

abbrev pub invariant-loop-label : goal.invariant-loop-label
invariant-loop-label g l =
    held l.taken ≡ taken_to g.W.Words.system l.self.letters.now (map all_seen l.self.earlier.now) (all_seen l.self.all.now) l.self.chosen.now l.above (g.S.Store.meaning l.store).pairs

abbrev pub decreases-loop-label : goal.decreases-loop-label
decreases-loop-label g l = 4294967296 - l.above
