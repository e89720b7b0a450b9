use Rattle.std.proofs.Common.{◌-◌, ◌≤◌, length}
use Rattle.rows.specs.Csv.{read_escaped}
use Rattle.rows.proofs.Scans.{Passed}
use Rattle.rows.proofs.csv_rows.closing_quote.Given as goal

abbrev pub invariant-loop-at : goal.invariant-loop-at
invariant-loop-at l = (l.at ≤ length l.bytes) × Passed read_escaped l.bytes l.at

abbrev pub decreases-loop-at : goal.decreases-loop-at
decreases-loop-at l = length l.bytes - l.at
