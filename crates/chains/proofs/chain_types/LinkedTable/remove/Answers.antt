use Rattle.std.proofs.Common.{◌-◌, get_or, None, Some, refl, arith}
use Rattle.chains.specs.declared.chain_types.Way.TheVariants.{ByLabel}
use Rattle.chains.proofs.Changes.{ways, number-of, stage_all, stage_more, held-count, removed_pile, removed}
use Rattle.chains.proofs.chain_types.LinkedTable.remove.Goals as goal

pub loop-way-preserved : goal.loop-way-preserved
loop-way-preserved c =
    let k = c.loop-way.way-index in
    stage_more k c.args.i None c.args.self.now.table.now c.loop-way.self.table.now c.args.self.now.heads c.loop-way.self.heads c.loop-way.invariant (get_or ways k ByLabel) c.unlink.new.self.table.now c.unlink.new.self.heads (number-of k c.loop-way-test.true) c.unlink.ensures.leaves c.unlink.ensures.linked

pub overflow_sub-self : goal.overflow_sub-self
overflow_sub-self c =
    let q = held-count c.args.self.now.table.now c.args.self.now.table.now c.args.self.now.heads c.args.self.now.heads c.args.i c.args.pair.now.0 c.args.pair.now.1 c.requires.chained c.requires.row in
    let n = c.loop-way.invariant.count in
    let m = q.0 in
    omega arith

pub returns : goal.returns
returns c =
    let t = c.args.self.now.table.now in
    let h = c.args.self.now.heads in
    let u = c.loop-way.self.table.now in
    let g = c.loop-way.self.heads in
    let i = c.args.i in
    let l = c.args.pair.now.0 in
    let f = c.args.pair.now.1 in
    let s = c.loop-way.invariant in
    let a = stage_all c.loop-way.way-index i None t u h g s (omega (arith, c.loop-way-test.false, c.loop-way.auto.way-index-end)) in
    rw c.free_row.ensures (record {
      chained = removed t u h g i l f c.requires.chained c.requires.row s.rows a s.frees s.count s.free (record g { free = Some i; count = g.count - 1 }) (λ w. refl) refl refl;
      after = removed_pile t u h g i l f c.requires.chained c.requires.row s.rows a s.frees s.count s.free;
    })
