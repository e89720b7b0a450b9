use Rattle.std.proofs.Common.{◌≡◌, ◌+◌, ◌≤◌, length}
use Rattle.rows.specs.Csv.{rows, row_count}
use Rattle.rows.proofs.Rows.{past}
use Rattle.rows.proofs.csv_rows.row_count.Given as goal

abbrev pub invariant-loop-rest : goal.invariant-loop-rest
invariant-loop-rest l = (l.rows + length l.rest ≤ length l.bytes) × (row_count (rows l.bytes) ≡ past l.rows (row_count (rows l.rest)))

abbrev pub decreases-loop-rest : goal.decreases-loop-rest
decreases-loop-rest l = length l.rest
