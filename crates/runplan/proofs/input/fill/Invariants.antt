use Rattle.std.proofs.Common.{◌-◌, ◌≤◌}
use Rattle.runplan.proofs.input.fill.Given as goal

abbrev pub invariant-loop-len : goal.invariant-loop-len
invariant-loop-len g l = l.len ≤ 65537

abbrev pub decreases-loop-len : goal.decreases-loop-len
decreases-loop-len g l = 65537 - l.len
