use Rattle.std.proofs.Common.{None}
use Rattle.chains.proofs.Changes.{Stage}
use Rattle.chains.proofs.chain_types.LinkedTable.remove.Given as goal

abbrev pub invariant-loop-way : goal.invariant-loop-way
invariant-loop-way l = Stage l.way-index l.i None l.fn.self.table.now l.self.table.now l.fn.self.heads l.self.heads
