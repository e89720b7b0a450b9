use Rattle.std.proofs.Common.{◌≡◌, ◌+◌, ◌*◌, ◌≤◌, suc, drop, map}
use Rattle.rules.specs.Rules.{rule_seen}
use Rattle.rules.specs.Closed.{head_from}
use Rattle.rules.proofs.table_type.Table.head_at.Given as goal

abbrev pub invariant-loop-i : goal.invariant-loop-i
invariant-loop-i l = (head_from 1 (map rule_seen l.rule-items) l.number ≡ head_from (suc l.i) (map rule_seen (drop l.i l.rule-items)) l.left) × (l.number ≤ l.left + 4 * l.i)
