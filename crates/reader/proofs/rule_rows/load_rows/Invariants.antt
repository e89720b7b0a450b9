use Rattle.std.proofs.Common.{length}
use Rattle.reader.specs.RuleScan.{stage_seen, Begun}
use Rattle.reader.proofs.RuleLoads.{LoadingRules}
use Rattle.reader.proofs.rule_rows.load_rows.Given as goal

abbrev pub invariant-loop-rest : goal.invariant-loop-rest
invariant-loop-rest g l = LoadingRules g.W.Words.system.valid l.bytes (stage_seen l.stage) l.row l.rest × Begun l.stage

abbrev pub decreases-loop-rest : goal.decreases-loop-rest
decreases-loop-rest g l = length l.rest
