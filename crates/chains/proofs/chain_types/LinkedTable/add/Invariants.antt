use Rattle.std.proofs.Common.{Some}
use Rattle.chains.proofs.Changes.{Stage}
use Rattle.chains.proofs.chain_types.LinkedTable.add.Given as goal

abbrev pub invariant-loop-way : goal.invariant-loop-way
invariant-loop-way l = Stage l.way-index l.i (Some l.pair) l.fn.self.table.now l.self.table.now l.fn.self.heads l.self.heads
