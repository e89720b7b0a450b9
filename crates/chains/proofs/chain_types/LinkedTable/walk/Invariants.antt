use Rattle.std.proofs.Common.{◌-◌}
use Rattle.chains.specs.Rows.{rows_of, chain_at, links_of, heads_of}
use Rattle.chains.specs.Acts.{label_at, Started}
use Rattle.chains.proofs.chain_types.LinkedTable.walk.Given as goal

abbrev pub invariant-loop-at : goal.invariant-loop-at
invariant-loop-at l =
    Started (chain_at l.fn.chain.way) (rows_of l.table) (links_of l.fn.chain.way l.table) (heads_of l.fn.chain.way l.self.heads) l.fn.chain.number l.above l.before l.at

-- labels rise along the chain
abbrev pub decreases-loop-at : goal.decreases-loop-at
decreases-loop-at l = 1000000 - label_at (rows_of l.table) l.before
