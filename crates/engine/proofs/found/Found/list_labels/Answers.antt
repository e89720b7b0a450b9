use Rattle.std.proofs.Common.{◌≡◌, length, ap, ◌∙◌, ◌+◌, arith, rules}
use Rattle.lists.specs.Held.{held}
use Rattle.engine.proofs.ApplyLists.{written-step}
use Rattle.engine.proofs.found.Found.list_labels.Goals as goal

pub loop-labels-preserved : goal.loop-labels-preserved
loop-labels-preserved c =
    let chosen = held c.args.self.choice.now.labels in
    let wide : length c.args.taken.now ≡ 2 = search rules in
    let l = c.loop-labels in
    let more = written-step chosen c.args.list.now l.list c.write_labels-end-in-loop-labels.new.list c.args.taken.now l.labels-index l.end c.labels-item.result c.as_slice.result.now
    (omega (arith, wide, c.loop-labels-test.true)) c.as_slice.ensures.items l.invariant.end l.invariant.list c.write_labels-end-in-loop-labels.ensures.list in
    record { end = c.write_labels-end-in-loop-labels.ensures.end ∙ (ap (λ ys. l.end + length ys) c.as_slice.ensures.items ∙ more.0); list = more.1 }
