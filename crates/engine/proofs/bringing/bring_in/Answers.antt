use Rattle.std.proofs.Common.{arith, refl}
use Rattle.rules.specs.Sets.{closed_rules}
use Rattle.engine.proofs.Seen.{seen_and_unseen, waits_fit, brought}
use Rattle.engine.proofs.bringing.bring_in.Goals as goal

pub push_looks-requires-clause-room : goal.push_looks-requires-clause-room
push_looks-requires-clause-room g c =
    let count = seen_and_unseen (closed_rules c.args.set.now) c.args.facts.now in
    omega (arith, count)

pub push_waits-requires-clause-room : goal.push_waits-requires-clause-room
push_waits-requires-clause-room g c =
    waits_fit (closed_rules c.args.set.now) c.args.facts.now c.args.next.now c.store_watched.new.next c.args.goals.now c.args.goals.now c.push_looks.new.goals c.store_watched.ensures.next refl c.push_looks.ensures c.requires.goals

pub returns-clause-state : goal.returns-clause-state
returns-clause-state g c =
    let m = g.S.Store.meaning in
    let rs = closed_rules c.args.set.now in
    brought rs rs c.args.facts.now (m c.args.store.now) (m c.store_watched.new.store) c.args.next.now c.store_watched.new.next c.args.goals.now c.args.goals.now c.push_looks.new.goals c.push_waits.new.goals c.store_watched.ensures.store c.store_watched.ensures.next refl c.push_looks.ensures refl c.push_waits.ensures
