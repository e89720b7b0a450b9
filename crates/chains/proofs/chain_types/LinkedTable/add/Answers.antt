use Rattle.std.proofs.Common.{◌+◌, get_or, Some, sym, refl, ◌∙◌, arith}
use Rattle.chains.specs.Rows.{rows_of}
use Rattle.chains.specs.declared.chain_types.Way.TheVariants.{ByLabel}
use Rattle.chains.proofs.Tables.{link-at}
use Rattle.chains.proofs.Changes.{read-absent, ways, number-of, stage_all, stage_more, free-row, added_pile, added}
use Rattle.chains.proofs.chain_types.LinkedTable.add.Goals as goal

pub link_in-requires-clause-new : goal.link_in-requires-clause-new
link_in-requires-clause-new c = rw c.loop-way.invariant.rows (read-absent c.args.pair.0 (rows_of c.args.self.now.table.now) c.requires.new)

pub loop-way-preserved : goal.loop-way-preserved
loop-way-preserved c =
    let k = c.loop-way.way-index in
    stage_more k c.args.i (Some c.args.pair) c.args.self.now.table.now c.loop-way.self.table.now c.args.self.now.heads c.loop-way.self.heads c.loop-way.invariant (get_or ways k ByLabel) c.link_in.new.self.table.now c.link_in.new.self.heads (number-of k c.loop-way-test.true) c.link_in.ensures.leaves c.link_in.ensures.linked

pub returns : goal.returns
returns c =
    let t = c.args.self.now.table.now in
    let h = c.args.self.now.heads in
    let u = c.loop-way.self.table.now in
    let g = c.loop-way.self.heads in
    let i = c.args.i in
    let l = c.args.pair.0 in
    let f = c.args.pair.1 in
    let s = c.loop-way.invariant in
    let d = c.index-self-i.result in
    let q = c.index-self-i-2.result in
    let r = free-row t t h h i l f c.requires.chained c.requires.pair c.requires.new c.requires.first in
    let a = stage_all c.loop-way.way-index i (Some (l, f)) t u h g s (omega (arith, c.loop-way-test.false, c.loop-way.auto.way-index-end)) in
    let e = c.next-next.ensures ∙ sym (link-at ByLabel t i d r.1) in
    record {
      chained = added t u h g i l f c.requires.chained c.requires.pair c.requires.new c.requires.first s.rows a s.frees s.count _ q refl refl (record g { free = c.next-next.result; count = g.count + 1 }) (λ w. refl) e refl;
      after = added_pile t u h g i l f c.requires.chained c.requires.pair c.requires.new c.requires.first s.rows a s.frees s.count _ q refl refl;
    }
