use Rattle.std.proofs.Common.{◌≡◌, ◌+◌, ◌-◌, ◌≤◌, ◌++◌, length}
use Rattle.engine.specs.Bringing.{looks_from}
use Rattle.engine.proofs.bringing.push_looks.Given as goal

abbrev pub invariant-loop-label : goal.invariant-loop-label
invariant-loop-label l =
    record {
      low : l.first ≤ l.label;
      high : l.label ≤ l.last;
      room : length l.goals + (l.label - l.first) ≤ 512;
      goals : l.goals ≡ looks_from l.label (l.last - l.label) ++ l.initial.goals;
    }
