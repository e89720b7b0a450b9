use Rattle.std.proofs.Common.{◌≡◌, ◌+◌, ◌≤◌, length}
use Rattle.rows.specs.Csv.{counted, read_row}
use Rattle.rows.proofs.Rows.{ahead}
use Rattle.rows.proofs.csv_rows.read_row.Given as goal

abbrev pub invariant-loop-after : goal.invariant-loop-after
invariant-loop-after l = (l.fields + length l.rest ≤ length l.bytes) × (counted (read_row l.bytes) ≡ ahead l.fields (counted (read_row l.rest)))

abbrev pub decreases-loop-after : goal.decreases-loop-after
decreases-loop-after l = length l.rest
