use Rattle.std.proofs.Common.{◌≡◌}
use Rattle.rules_file.specs.RuleRows.{unused, from}
use Rattle.reader.specs.RuleScan.{cells}
use Rattle.reader.proofs.row_types.RuleRow.unused_from.Given as goal

abbrev pub invariant-loop-number : goal.invariant-loop-number
invariant-loop-number l = unused l.self.row l.first (from l.first (cells l.self)) ≡ unused l.self.row l.number (from l.number (cells l.self))
