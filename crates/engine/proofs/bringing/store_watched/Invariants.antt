use Rattle.std.proofs.Common.{◌≤◌}
use Rattle.rules.specs.Sets.{closed_rules}
use Rattle.engine.proofs.Seen.{IsStoredTo}
use Rattle.engine.proofs.bringing.store_watched.Given as goal

abbrev pub invariant-loop-fact : goal.invariant-loop-fact
invariant-loop-fact g l =
    let rules = closed_rules l.set in
    let was = g.S.Store.meaning l.initial.store in
    let now = g.S.Store.meaning l.store in
    (1 ≤ l.next) × IsStoredTo rules l.facts l.fact-index was now l.initial.next l.next
