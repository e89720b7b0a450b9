use Rattle.std.proofs.Common.{◌∙◌, sym, ap, arith, length, ◌≤◌, ◌+◌}
use Rattle.engine.proofs.Withouts.{left_from, left_more, left_all}
use Rattle.engine.proofs.removing.remove_all.Goals as goal

pub loop-label-preserved : goal.loop-label-preserved
loop-label-preserved g c =
    let i = c.loop-label.label-index in
    let ls = c.args.labels.now in
    c.loop-label.invariant ∙ (left_more i ls (g.S.Store.meaning c.loop-label.store) c.loop-label-test.true ∙ ap (left_from (i + 1) ls) (sym c.take-fact.ensures.after))

pub returns : goal.returns
returns g c =
    let h : length c.args.labels.now ≤ c.loop-label.label-index = omega arith in
    sym (c.loop-label.invariant ∙ left_all c.loop-label.label-index c.args.labels.now (g.S.Store.meaning c.loop-label.store) h)
