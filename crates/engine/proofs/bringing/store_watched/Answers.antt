use Rattle.std.proofs.Common.{◌≤◌, ◌∙◌, sym, arith}
use Rattle.rules.specs.Sets.{closed_rules}
use Rattle.engine.proofs.Seen.{stored_more, stored_same}
use Rattle.engine.proofs.bringing.store_watched.Goals as goal
use Rattle.engine.proofs.bringing.store_watched.Goals.{then-watches, else-watches}

pub loop-fact-preserved : goal.loop-fact-preserved
loop-fact-preserved g c =
    let m = g.S.Store.meaning in
    let rs = closed_rules c.args.set.now in
    let n = c.loop-fact.next in
    let first = c.args.next.now in
    let i = c.loop-fact.fact-index in
    let low : 1 ≤ n = c.loop-fact.invariant.0 in
    elim c.if-watches.branch [
      | then-watches w ↦
          let up : 1 ≤ w.put_next.new.next = omega (arith, low, w.put_next.ensures.next) in
          rw (w.store-is, w.next-is)
          (up, stored_more rs c.args.facts.now i _ (m c.args.store.now) (m c.loop-fact.store) (m w.put_next.new.store) first n w.put_next.new.next c.loop-fact-test.true (sym c.watches.ensures ∙ w.if-watches.true) c.loop-fact.invariant.1 w.put_next.ensures.store w.put_next.ensures.next)
      | else-watches w ↦
          rw (w.store-is, w.next-is)
          (low, stored_same rs c.args.facts.now i _ (m c.args.store.now) (m c.loop-fact.store) first n c.loop-fact-test.true (sym c.watches.ensures ∙ w.if-watches.false) c.loop-fact.invariant.1)
    ]
