use Rattle.std.proofs.Common.{◌≡◌, ◌+◌, drop, map}
use Rattle.facts.specs.declared.fact_types.Fact.{Fact}
use Rattle.stores.specs.Store.{facts}
use Rattle.machine.specs.Fitting.{given}
use Rattle.engine.specs.Letters.{setting_in}
use Rattle.engine.specs.Searching.{pairs_at}
use Rattle.engine.proofs.Bodies.{with_values}
use Rattle.engine.proofs.body.give_over.Given as goal

abbrev pub invariant-loop-label : goal.invariant-loop-label
invariant-loop-label g l =
    let ps = (g.S.Store.meaning l.store).pairs in
    let value = λ (f : Fact). given g.W.Words.system (setting_in l.letters) f.words l.template in
    (l.body.count ≡ l.initial.body.count + l.label-index) × (with_values l.initial.body (map value (facts (pairs_at ps l.labels))) ≡ with_values l.body (map value (facts (pairs_at ps (drop l.label-index l.labels)))))
