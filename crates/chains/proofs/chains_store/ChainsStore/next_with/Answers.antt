use Rattle.std.proofs.Common.{ℤ, w64, to_z, of_z, sym, ap, ◌∙◌, arith}
use Rattle.std.proofs.lemmas.Int.{to_z-of_z}
use Rattle.stores.specs.Store.{next_with}
use Rattle.stores.specs.Table.{pairs_of}
use Rattle.chains.specs.Rows.{rows_of, links_of, heads_of}
use Rattle.chains.specs.Acts.{asked_label}
use Rattle.chains.specs.declared.chain_types.Way.TheVariants.{ByWord}
use Rattle.chains.proofs.Named.{points-within}
use Rattle.chains.proofs.Tables.{rows-length, row-lent}
use Rattle.chains.proofs.Answered.{asking_at, asking_end, asked_answer, asked_on}
use Rattle.chains.proofs.chains_store.ChainsStore.next_with.Goals as goal

pub bounds-table-i : goal.bounds-table-i
bounds-table-i c =
    let t = c.args.self.now.linked.table.now in
    let a = asking_at c.args.kind (to_z w64 (of_z w64 c.args.word)) c.args.above c.loop-at.at c.in-Some.i (rows_of t) c.loop-at.invariant.0 c.in-Some.is c.loop-at.invariant.1 in
    let n = rows-length t in
    let m = points-within (rows_of t) c.in-Some.i _ a.next in
    omega arith

pub returns-in-Some-asked_label : goal.returns-in-Some-asked_label
returns-in-Some-asked_label c =
    let R = rows_of c.args.self.now.linked.table.now in
    let w = to_z w64 (of_z w64 c.args.word) in
    let i = c.in-Some.i in
    let a = asking_at c.args.kind w c.args.above c.loop-at.at i R c.loop-at.invariant.0 c.in-Some.is c.loop-at.invariant.1 in
    let r = row-lent c.args.self.now.linked.table.now i _ c.index-table-i.result a.next c.index-table-i.is in
    let e = ap (asked_label c.args.kind w) r.0 ∙ sym c.asked_label.ensures ∙ c.in-Some-asked_label.is in
    let q = asked_answer c.args.kind w c.args.above i R c.loop-at.invariant.0 c.in-Some-asked_label.label c.args.self.now.chained.apart c.args.self.now.chained.kept a e in
    let z = to_z-of_z w64 c.args.word c.ranges.word in
    sym (ap (λ (x : ℤ). next_with c.args.kind x c.args.above (pairs_of R)) (sym z) ∙ q)

pub loop-at-preserved : goal.loop-at-preserved
loop-at-preserved c =
    let t = c.args.self.now.linked.table.now in
    let R = rows_of t in
    let w = to_z w64 (of_z w64 c.args.word) in
    let i = c.in-Some.i in
    let a = asking_at c.args.kind w c.args.above c.loop-at.at i R c.loop-at.invariant.0 c.in-Some.is c.loop-at.invariant.1 in
    let r = row-lent t i _ c.index-table-i.result a.next c.index-table-i.is in
    let e = ap (asked_label c.args.kind w) r.0 ∙ sym c.asked_label.ensures ∙ c.in_default-asked_label.is in
    let q = asked_on c.args.kind w c.args.above i R (links_of ByWord t) (heads_of ByWord c.args.self.now.linked.heads) c.loop-at.invariant.0 c.args.self.now.chained.apart c.args.self.now.chained.kept (c.args.self.now.chained.linked ByWord) a e in
    rw (c.next-at.ensures, ← (r.1 ByWord)) q.0

pub loop-at-smaller : goal.loop-at-smaller
loop-at-smaller c =
    let t = c.args.self.now.linked.table.now in
    let R = rows_of t in
    let w = to_z w64 (of_z w64 c.args.word) in
    let i = c.in-Some.i in
    let a = asking_at c.args.kind w c.args.above c.loop-at.at i R c.loop-at.invariant.0 c.in-Some.is c.loop-at.invariant.1 in
    let r = row-lent t i _ c.index-table-i.result a.next c.index-table-i.is in
    let e = ap (asked_label c.args.kind w) r.0 ∙ sym c.asked_label.ensures ∙ c.in_default-asked_label.is in
    let q = asked_on c.args.kind w c.args.above i R (links_of ByWord t) (heads_of ByWord c.args.self.now.linked.heads) c.loop-at.invariant.0 c.args.self.now.chained.apart c.args.self.now.chained.kept (c.args.self.now.chained.linked ByWord) a e in
    rw (c.next-at.ensures, c.in-Some.is, ← (r.1 ByWord)) q.1

pub returns : goal.returns
returns c =
    let R = rows_of c.args.self.now.linked.table.now in
    let w = to_z w64 (of_z w64 c.args.word) in
    let q = asking_end c.args.kind w c.args.above R c.loop-at.invariant.0 (rw (← c.in_default.is) c.loop-at.invariant.1) in
    let z = to_z-of_z w64 c.args.word c.ranges.word in
    sym (ap (λ (x : ℤ). next_with c.args.kind x c.args.above (pairs_of R)) (sym z) ∙ q)
