use Rattle.rules.specs.Sets.{closed_rules}
use Rattle.engine.proofs.Seen.{IsWaiting}
use Rattle.engine.proofs.bringing.push_waits.Given as goal

abbrev pub invariant-loop-fact : goal.invariant-loop-fact
invariant-loop-fact g l = IsWaiting (closed_rules l.set) l.facts l.fact-iterator.iter.rest.now l.initial.goals l.goals
