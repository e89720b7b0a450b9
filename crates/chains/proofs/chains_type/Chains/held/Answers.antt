use Rattle.std.proofs.Common.{arith}
use Rattle.chains.specs.Rows.{rows_of}
use Rattle.chains.proofs.Answered.{none_at_0, having-placed}
use Rattle.chains.proofs.chains_type.Chains.held.Goals as goal

pub returns-then-label-eq0 : goal.returns-then-label-eq0
returns-then-label-eq0 c = rw c.if-label-eq0.true (none_at_0 (rows_of c.args.self.now.linked.table.now) c.args.self.now.chained.kept)

pub returns : goal.returns
returns c =
    let no_0 = c.if-label-eq0.false in
    rw c.found.ensures (having-placed c.args.label (rows_of c.args.self.now.linked.table.now) c.place-spot.result.at (omega arith) (rw (← c.label_chain.ensures.way, ← c.label_chain.ensures.number) c.place-spot.ensures.next))
