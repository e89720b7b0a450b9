use Rattle.std.proofs.Common.{rules, ◌≡◌, None, get_or, ⊎_elim, arith}
use Rattle.chains.specs.Rows.{rows_of, links_of, heads_of, chain_at}
use Rattle.chains.specs.Acts.{label_at}
use Rattle.chains.proofs.Walks.{pair_or_free, walk-end, met_pair, met_more, met_stop}
use Rattle.chains.proofs.chain_types.LinkedTable.walk.Goals as goal

pub loop-at-preserved : goal.loop-at-preserved
loop-at-preserved c =
    let t = c.args.self.now.table.now in
    rw (c.next-at.ensures, c.index-table-i.is) (met_more c.args.chain.way t c.args.self.now.heads c.args.chain.number (label_at (rows_of t) c.loop-at.before) c.args.above c.loop-at.before c.loop-at.at c.in-Some.i c.requires.walkable c.loop-at.invariant.place c.in-Some.is _ c.in-Some-row.label c.in-Some-row.field-0-1 c.in-Some-row.is c.index-table-i.result c.if-label-above.true).0

pub loop-at-smaller : goal.loop-at-smaller
loop-at-smaller c =
    let t = c.args.self.now.table.now in
    (met_more c.args.chain.way t c.args.self.now.heads c.args.chain.number (label_at (rows_of t) c.loop-at.before) c.args.above c.loop-at.before c.loop-at.at c.in-Some.i c.requires.walkable c.loop-at.invariant.place c.in-Some.is _ c.in-Some-row.label c.in-Some-row.field-0-1 c.in-Some-row.is c.index-table-i.result c.if-label-above.true).1

pub returns-else-label-above : goal.returns-else-label-above
returns-else-label-above c =
    let t = c.args.self.now.table.now in
    rw (← c.in-Some.is) (met_stop c.args.chain.way t c.args.self.now.heads c.args.chain.number (label_at (rows_of t) c.loop-at.before) c.args.above c.loop-at.before c.loop-at.at c.in-Some.i c.requires.walkable c.loop-at.invariant.place c.in-Some.is _ c.in-Some-row.label c.in-Some-row.field-0-1 c.in-Some-row.is c.loop-at.invariant.below c.if-label-above.false)

pub returns-in-loop-at : goal.returns-in-loop-at
returns-in-loop-at c =
    let t = c.args.self.now.table.now in
    let h = c.args.self.now.heads in
    let w = c.args.chain.way in
    let e : c.loop-at.at ≡ None = search rules in
    rw e (walk-end (chain_at w) (rows_of t) (links_of w t) (heads_of w h) c.args.chain.number (label_at (rows_of t) c.loop-at.before) c.args.above c.loop-at.before (rw (← e) c.loop-at.invariant.place) c.loop-at.invariant.below)

pub returns-in-Some : goal.returns-in-Some
returns-in-Some c =
    let t = c.args.self.now.table.now in
    let row = (get_or t c.in-Some.i c.result-1.given.0).row in
    let free : row ≡ None = ⊎_elim (λ q. let z = rw q.1 at c.in-None-1.keys2 in absurd (omega (arith, z))) (λ q. q) (pair_or_free row) in
    absurd (met_pair c.args.chain.way t c.args.self.now.heads c.args.chain.number (label_at (rows_of t) c.loop-at.before) c.args.above c.loop-at.before c.loop-at.at c.in-Some.i c.requires.walkable c.loop-at.invariant.place c.in-Some.is c.result-1.given.0 free)
