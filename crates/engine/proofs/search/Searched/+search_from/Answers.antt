use Rattle.std.proofs.Common.{length, ap, ◌∙◌, None, Some, refl, arith, rules}
use Rattle.std.proofs.lemmas.List.{length_push}
use Rattle.lists.specs.Held.{held}
use Rattle.engine.proofs.Gets.{item, inside, past}
use Rattle.engine.proofs.SearchOrder.{owed-rising}
use Rattle.engine.proofs.SearchCalls.{extended-parts, end-answer, place_partial, place-found, loop_start, loop_end, loop_larger, loop_refused, loop_partial, loop_found, loop_passed}
use Rattle.engine.proofs.search.Searched.+search_from.Goals as goal

pub returns-in_default : goal.returns-in_default
returns-in_default g t c =
    rw c.then_some.ensures
    (end-answer g.W.Words.system c.args.self.now.rule.now c.args.self.now.place c.args.self.now.active (g.S.Store.meaning c.args.self.now.store.now).pairs c.args.choice.now
    c.requires c.len-at.result c.len-at.ensures.count (past c.args.self.now.rule.now.singles c.as_slice.result.now c.len-at.result c.as_slice.ensures.items c.in_default.ensures.lookup.0) c.conditions_hold.result c.conditions_hold.ensures)

pub search_from-requires : goal.search_from-requires
search_from-requires g t c κs within =
    let below = inside c.args.self.now.rule.now.singles c.as_slice.result.now c.len-at.result c.as_slice.ensures.items c.in-Some.ensures.lookup.0 in
    let more = ap length c.push.ensures.held ∙ length_push (held c.args.choice.now.labels) c.args.self.now.active in
    let p = place_partial g.W.Words.system c.args.self.now.rule.now c.args.self.now.place c.args.self.now.active (g.S.Store.meaning c.args.self.now.store.now).pairs c.args.choice.now
    c.requires c.len-at.result c.len-at.ensures.count c.if-at-self.true c.push.new.self c.push.ensures.held in
    (omega (arith, below, more, c.len-at.ensures.count), (search rules, (search rules, p)))

pub returns-then-at-self : goal.returns-then-at-self
returns-then-at-self g t c =
    place-found g.W.Words.system c.args.self.now.rule.now c.args.self.now.place c.args.self.now.active (g.S.Store.meaning c.args.self.now.store.now).pairs c.args.choice.now
    c.requires c.len-at.result c.len-at.ensures.count c.if-at-self.true c.push.new.self c.push.ensures.held
    (owed-rising (g.S.Store.meaning c.args.self.now.store.now) (g.S.Store.owed c.args.self.now.store.now)) c.search_from.result c.search_from.ensures

pub loop-label-init : goal.loop-label-init
loop-label-init g t c =
    loop_start g.W.Words.system c.args.self.now.rule.now c.args.self.now.place c.args.self.now.active (g.S.Store.meaning c.args.self.now.store.now).pairs c.args.choice.now
    c.requires c.len-at.result c.len-at.ensures.count c.in-Some.head.now (item c.args.self.now.rule.now.singles c.as_slice.result.now c.len-at.result c.as_slice.ensures.items c.in-Some.head.now c.in-Some.ensures.lookup.0 c.in-Some.ensures.lookup.1)
    (owed-rising (g.S.Store.meaning c.args.self.now.store.now) (g.S.Store.owed c.args.self.now.store.now))

pub search_from-requires-in-Some-extended : goal.search_from-requires-in-Some-extended
search_from-requires-in-Some-extended g t c κs within =
    let p = loop_partial g.W.Words.system c.args.self.now.rule.now c.args.self.now.place c.args.self.now.active (g.S.Store.meaning c.args.self.now.store.now).pairs c.args.choice.now
    c.requires c.len-at.result c.len-at.ensures.count c.in-Some.head.now (item c.args.self.now.rule.now.singles c.as_slice.result.now c.len-at.result c.as_slice.ensures.items c.in-Some.head.now c.in-Some.ensures.lookup.0 c.in-Some.ensures.lookup.1)
    (owed-rising (g.S.Store.meaning c.args.self.now.store.now) (g.S.Store.owed c.args.self.now.store.now))
    c.loop-label.above (Some c.in-Some-next_candidate.label) c.in-Some-next_candidate.ensures c.in-Some-next_candidate.label refl c.if-at-self.false
    c.in-Some-extended.longer c.in-Some-extended.ensures in
    let below = inside c.args.self.now.rule.now.singles c.as_slice.result.now c.len-at.result c.as_slice.ensures.items c.in-Some.ensures.lookup.0 in
    let row = (extended-parts _ c.args.choice.now c.in-Some-next_candidate.label c.in-Some-extended.longer c.in-Some-extended.ensures).1 in
    let more = ap length row ∙ length_push (held c.args.choice.now.labels) c.in-Some-next_candidate.label in
    (omega (arith, below, more, c.len-at.ensures.count), (search rules, (search rules, p)))

pub returns-in-Some-search_from : goal.returns-in-Some-search_from
returns-in-Some-search_from g t c =
    loop_found g.W.Words.system c.args.self.now.rule.now c.args.self.now.place c.args.self.now.active (g.S.Store.meaning c.args.self.now.store.now).pairs c.args.choice.now
    c.requires c.len-at.result c.len-at.ensures.count c.in-Some.head.now (item c.args.self.now.rule.now.singles c.as_slice.result.now c.len-at.result c.as_slice.ensures.items c.in-Some.head.now c.in-Some.ensures.lookup.0 c.in-Some.ensures.lookup.1)
    (owed-rising (g.S.Store.meaning c.args.self.now.store.now) (g.S.Store.owed c.args.self.now.store.now))
    c.loop-label.above (Some c.in-Some-next_candidate.label) c.in-Some-next_candidate.ensures c.in-Some-next_candidate.label refl c.if-at-self.false
    c.in-Some-extended.longer c.in-Some-extended.ensures c.in-Some-search_from.found c.loop-label.invariant c.in-Some-search_from.ensures

pub loop-label-smaller-in_default-search_from : goal.loop-label-smaller-in_default-search_from
loop-label-smaller-in_default-search_from g t c =
    let h = loop_larger g.W.Words.system c.args.self.now.rule.now c.args.self.now.place c.args.self.now.active (g.S.Store.meaning c.args.self.now.store.now).pairs c.args.choice.now
    c.requires c.len-at.result c.len-at.ensures.count c.in-Some.head.now (item c.args.self.now.rule.now.singles c.as_slice.result.now c.len-at.result c.as_slice.ensures.items c.in-Some.head.now c.in-Some.ensures.lookup.0 c.in-Some.ensures.lookup.1)
    (owed-rising (g.S.Store.meaning c.args.self.now.store.now) (g.S.Store.owed c.args.self.now.store.now))
    c.loop-label.above (Some c.in-Some-next_candidate.label) c.in-Some-next_candidate.ensures c.in-Some-next_candidate.label refl c.if-at-self.false in
    search (rules, h)

pub loop-label-preserved-in_default-search_from : goal.loop-label-preserved-in_default-search_from
loop-label-preserved-in_default-search_from g t c =
    loop_passed g.W.Words.system c.args.self.now.rule.now c.args.self.now.place c.args.self.now.active (g.S.Store.meaning c.args.self.now.store.now).pairs c.args.choice.now
    c.requires c.len-at.result c.len-at.ensures.count c.in-Some.head.now (item c.args.self.now.rule.now.singles c.as_slice.result.now c.len-at.result c.as_slice.ensures.items c.in-Some.head.now c.in-Some.ensures.lookup.0 c.in-Some.ensures.lookup.1)
    (owed-rising (g.S.Store.meaning c.args.self.now.store.now) (g.S.Store.owed c.args.self.now.store.now))
    c.loop-label.above (Some c.in-Some-next_candidate.label) c.in-Some-next_candidate.ensures c.in-Some-next_candidate.label refl c.if-at-self.false
    c.in-Some-extended.longer c.in-Some-extended.ensures c.loop-label.invariant c.in_default-search_from.ensures

pub loop-label-smaller : goal.loop-label-smaller
loop-label-smaller g t c =
    let h = loop_larger g.W.Words.system c.args.self.now.rule.now c.args.self.now.place c.args.self.now.active (g.S.Store.meaning c.args.self.now.store.now).pairs c.args.choice.now
    c.requires c.len-at.result c.len-at.ensures.count c.in-Some.head.now (item c.args.self.now.rule.now.singles c.as_slice.result.now c.len-at.result c.as_slice.ensures.items c.in-Some.head.now c.in-Some.ensures.lookup.0 c.in-Some.ensures.lookup.1)
    (owed-rising (g.S.Store.meaning c.args.self.now.store.now) (g.S.Store.owed c.args.self.now.store.now))
    c.loop-label.above (Some c.in-Some-next_candidate.label) c.in-Some-next_candidate.ensures c.in-Some-next_candidate.label refl c.if-at-self.false in
    search (rules, h)

pub loop-label-preserved : goal.loop-label-preserved
loop-label-preserved g t c =
    loop_refused g.W.Words.system c.args.self.now.rule.now c.args.self.now.place c.args.self.now.active (g.S.Store.meaning c.args.self.now.store.now).pairs c.args.choice.now
    c.requires c.len-at.result c.len-at.ensures.count c.in-Some.head.now (item c.args.self.now.rule.now.singles c.as_slice.result.now c.len-at.result c.as_slice.ensures.items c.in-Some.head.now c.in-Some.ensures.lookup.0 c.in-Some.ensures.lookup.1)
    (owed-rising (g.S.Store.meaning c.args.self.now.store.now) (g.S.Store.owed c.args.self.now.store.now))
    c.loop-label.above (Some c.in-Some-next_candidate.label) c.in-Some-next_candidate.ensures c.in-Some-next_candidate.label refl c.if-at-self.false
    c.in_default-extended.ensures c.loop-label.invariant

pub returns : goal.returns
returns g t c =
    loop_end g.W.Words.system c.args.self.now.rule.now c.args.self.now.place c.args.self.now.active (g.S.Store.meaning c.args.self.now.store.now).pairs c.args.choice.now
    c.requires c.len-at.result c.len-at.ensures.count c.in-Some.head.now (item c.args.self.now.rule.now.singles c.as_slice.result.now c.len-at.result c.as_slice.ensures.items c.in-Some.head.now c.in-Some.ensures.lookup.0 c.in-Some.ensures.lookup.1)
    (owed-rising (g.S.Store.meaning c.args.self.now.store.now) (g.S.Store.owed c.args.self.now.store.now))
    c.loop-label.above None c.in_default-next_candidate.ensures refl c.loop-label.invariant
