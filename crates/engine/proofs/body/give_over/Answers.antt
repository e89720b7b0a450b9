use Rattle.std.proofs.Common.{map, ap, arith}
use Rattle.facts.specs.declared.fact_types.Fact.{Fact}
use Rattle.stores.specs.Store.{facts}
use Rattle.machine.specs.Fitting.{given}
use Rattle.engine.specs.Letters.{setting_in}
use Rattle.engine.specs.Searching.{pairs_at}
use Rattle.engine.proofs.Bodies.{over-more}
use Rattle.engine.proofs.body.give_over.Goals as goal

pub loop-label-preserved : goal.loop-label-preserved
loop-label-preserved g c =
    let ps = (g.S.Store.meaning c.args.store.now).pairs in
    let value = λ (f : Fact). given g.W.Words.system (setting_in c.args.letters.now) f.words c.args.template.now in
    let n = ap (λ b. b.count) c.add.ensures in (
      omega (arith, n, c.loop-label.invariant.0),
      over-more ps value c.args.labels.now c.loop-label.label-index 0 c.in_ok-taken.taken c.in_ok-fill.field-0 c.args.body.now c.loop-label.body c.add.new.body (map value (facts (pairs_at ps c.args.labels.now)))
          c.loop-label.invariant.1 c.loop-label-test.true c.in_ok-taken.ensures c.in_ok-fill.ensures c.add.ensures,
    )
