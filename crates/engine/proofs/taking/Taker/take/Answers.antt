use Rattle.std.proofs.Common.{◌<◌, length, map, sym, ap, ◌∙◌, arith, rules}
use Rattle.std.proofs.lemmas.Bool.{lt-ltb}
use Rattle.lists.specs.Held.{held}
use Rattle.rules.specs.Rules.{all_seen}
use Rattle.engine.proofs.Takings.{Step, step_up, filled-yes, filled-no, taken_to-first, taken_to_room, filled-all}
use Rattle.engine.proofs.taking.Taker.take.Goals as goal

pub loop-label-init : goal.loop-label-init
loop-label-init g c =
    let t = c.args.self.now in
    let m = g.S.Store.meaning c.args.store.now in
    c.clear.ensures.held ∙ sym (taken_to-first g.W.Words.system (map all_seen t.earlier.now) t.chosen.now t.letters.now (all_seen t.all.now) m (g.S.Store.owed c.args.store.now))

pub push-requires : goal.push-requires
push-requires g c =
    let t = c.args.self.now in
    let step : Step t.letters.now (all_seen t.all.now) (g.S.Store.meaning c.args.store.now) c.loop-label.above c.in-Some.label =
    record { owed = g.S.Store.owed c.args.store.now; next = c.in-Some.ensures } in
    let room = taken_to_room g.W.Words.system (map all_seen t.earlier.now) t.chosen.now step c.takes_label.result c.takes_label.ensures c.if-takes_label.true in
    (omega arith, lt-ltb (length (held c.loop-label.taken)) 1024 (omega (arith, room, ap length c.loop-label.invariant)))

pub loop-label-smaller-then-takes_label : goal.loop-label-smaller-then-takes_label
loop-label-smaller-then-takes_label g c =
    let t = c.args.self.now in
    let step : Step t.letters.now (all_seen t.all.now) (g.S.Store.meaning c.args.store.now) c.loop-label.above c.in-Some.label =
    record { owed = g.S.Store.owed c.args.store.now; next = c.in-Some.ensures } in
    let up : c.loop-label.above < c.in-Some.label = step_up step in
    search (rules, up)

pub loop-label-smaller : goal.loop-label-smaller
loop-label-smaller g c =
    let t = c.args.self.now in
    let step : Step t.letters.now (all_seen t.all.now) (g.S.Store.meaning c.args.store.now) c.loop-label.above c.in-Some.label =
    record { owed = g.S.Store.owed c.args.store.now; next = c.in-Some.ensures } in
    let up : c.loop-label.above < c.in-Some.label = step_up step in
    search (rules, up)

pub loop-label-preserved-then-takes_label : goal.loop-label-preserved-then-takes_label
loop-label-preserved-then-takes_label g c =
    let t = c.args.self.now in
    let step : Step t.letters.now (all_seen t.all.now) (g.S.Store.meaning c.args.store.now) c.loop-label.above c.in-Some.label =
    record { owed = g.S.Store.owed c.args.store.now; next = c.in-Some.ensures } in
    filled-yes g.W.Words.system (map all_seen t.earlier.now) t.chosen.now step c.takes_label.result c.takes_label.ensures c.if-takes_label.true (held c.loop-label.taken) (held c.push.new.self) c.loop-label.invariant c.push.ensures.held

pub loop-label-preserved : goal.loop-label-preserved
loop-label-preserved g c =
    let t = c.args.self.now in
    let step : Step t.letters.now (all_seen t.all.now) (g.S.Store.meaning c.args.store.now) c.loop-label.above c.in-Some.label =
    record { owed = g.S.Store.owed c.args.store.now; next = c.in-Some.ensures } in
    filled-no g.W.Words.system (map all_seen t.earlier.now) t.chosen.now step c.takes_label.result c.takes_label.ensures c.if-takes_label.false (held c.loop-label.taken) c.loop-label.invariant

pub returns : goal.returns
returns g c =
    let t = c.args.self.now in
    let m = g.S.Store.meaning c.args.store.now in
    filled-all g.W.Words.system (map all_seen t.earlier.now) t.chosen.now t.letters.now (all_seen t.all.now) m c.loop-label.above c.in_default.ensures (held c.loop-label.taken) c.loop-label.invariant
