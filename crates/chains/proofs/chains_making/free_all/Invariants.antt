use Rattle.std.proofs.Common.{◌≡◌, ℕ, ◌<◌, get_or, length, None}
use Rattle.chains.specs.Acts.{free_row, behind}
use Rattle.chains.proofs.chains_making.free_all.Given as goal

abbrev pub invariant-loop-i : goal.invariant-loop-i
invariant-loop-i l = (k : ℕ) → k < l.i → get_or l.table k (free_row None) ≡ free_row (behind (length l.table) k)
