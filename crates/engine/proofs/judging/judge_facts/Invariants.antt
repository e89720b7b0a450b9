use Rattle.std.proofs.Common.{◌≡◌, ◌+◌, drop}
use Rattle.machine.specs.Machine.{facts_verdict}
use Rattle.engine.proofs.judging.judge_facts.Given as goal

abbrev pub invariant-loop-place : goal.invariant-loop-place
invariant-loop-place g l =
    let system = g.W.Words.system in
    facts_verdict system 1 l.facts ≡ facts_verdict system (l.place + 1) (drop l.place l.facts)
