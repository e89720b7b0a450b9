use Rattle.std.proofs.Common.{◌∙◌, sym}
use Rattle.rules.specs.Sets.{closed_rules}
use Rattle.engine.proofs.Seen.{wait_fits}
use Rattle.engine.proofs.bringing.push_waits.Goals as goal

pub push-requires-clause-room : goal.push-requires-clause-room
push-requires-clause-room g c =
    wait_fits (closed_rules c.args.set.now) c.args.facts.now c.loop-fact.fact-iterator.iter.rest.now c.next.new.self.iter.rest.now c.in-Some.fact.now c.args.goals.now c.loop-fact.goals
    c.in-Some.ensures.steps c.loop-fact.invariant (sym c.watches.ensures ∙ c.if-not-watches.true) c.requires.room
