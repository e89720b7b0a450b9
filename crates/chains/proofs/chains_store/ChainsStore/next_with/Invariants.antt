use Rattle.std.proofs.Common.{ℕ}
use Rattle.chains.specs.Rows.{rows_of}
use Rattle.chains.proofs.Answered.{Asking, rank}
use Rattle.chains.proofs.chains_store.ChainsStore.next_with.Given as goal

abbrev pub invariant-loop-at : goal.invariant-loop-at
invariant-loop-at l = (a : ℕ) × Asking l.kind l.word l.above l.at (rows_of l.table) a

-- labels rise along the chain
abbrev pub decreases-loop-at : goal.decreases-loop-at
decreases-loop-at l = rank (rows_of l.table) l.at
