use Rattle.std.proofs.Common.{◌<◌, ◌≤◌, Ok, Err, length, arith}
use Rattle.std.specs.Option.{option_map}
use Rattle.std.proofs.lemmas.Result.{err_from_is_err_and}
use Rattle.std.proofs.lemmas.Bool.Decides.{nat_tests}
use Rattle.lists.specs.Held.{held}
use Rattle.lists.proofs.Held.{held-count}
use Rattle.facts_file.specs.FactRefusals.{fact_refusal}
use Rattle.facts_file.proofs.FactLoads.{loading_more, loading_refused, loading_all, made_shorter, loaded_so}
use Rattle.facts_file.proofs.Named.{answer-named}
use Rattle.facts_file.proofs.fact_rows.load_facts.Goals as goal

pub returns-in_err-fact : goal.returns-in_err-fact
returns-in_err-fact g c =
    let p = err_from_is_err_and c.from_residual-in_err-fact.result c.from_residual-in_err-fact.ensures.1 in
    let valid = g.W.Words.system.valid in
    let file = option_map (λ x. x.now) c.args.file in
    let facts = held c.loop-rest.facts in
    let refused = fact_refusal c.in_err-fact.field-0.0 in
    let some : 1 ≤ length c.loop-rest.rest.now = let e = c.loop-rest-test.ensures in grind (arith, nat_tests) in
    let r = loading_refused valid file facts c.loop-rest.facts.items c.args.facts.now.items c.loop-rest.rest.now c.loop-rest.invariant refused some (rw c.len.ensures.count at c.in_err-fact.ensures.step) in
    rw (p.1, p.2) (record { answer = r.0; facts = r.1; items = r.2; named = answer-named valid file (Err refused) facts r.0; loaded = loaded_so valid file (Err refused) facts r.0 })

pub loop-rest-smaller : goal.loop-rest-smaller
loop-rest-smaller g c =
    let some : 1 ≤ length c.loop-rest.rest.now = let e = c.loop-rest-test.ensures in grind (arith, nat_tests) in
    made_shorter g.W.Words.system.valid _ c.loop-rest.rest.now c.in_ok-fact.fact c.in_ok-fact.more.now some c.in_ok-fact.ensures.step

pub loop-rest-preserved : goal.loop-rest-preserved
loop-rest-preserved g c =
    let some : 1 ≤ length c.loop-rest.rest.now = let e = c.loop-rest-test.ensures in grind (arith, nat_tests) in
    let room : length (held c.loop-rest.facts) < length c.loop-rest.facts.items = omega (arith, held-count c.loop-rest.facts, c.loop-rest.facts.long, c.in_ok-fact.ensures.bound, c.len.ensures.count) in
    rw (c.push.ensures.held, c.push.ensures.items)
    (loading_more g.W.Words.system.valid (option_map (λ x. x.now) c.args.file) (held c.loop-rest.facts) c.loop-rest.facts.items c.args.facts.now.items c.loop-rest.rest.now c.loop-rest.invariant c.in_ok-fact.fact c.in_ok-fact.more.now room some (rw c.len.ensures.count at c.in_ok-fact.ensures.step))

pub returns : goal.returns
returns g c =
    let valid = g.W.Words.system.valid in
    let file = option_map (λ x. x.now) c.args.file in
    let facts = held c.loop-rest.facts in
    let none : length c.loop-rest.rest.now ≤ 0 = let e = c.loop-rest-test.ensures in grind (arith, nat_tests) in
    let r = loading_all valid file facts c.loop-rest.facts.items c.args.facts.now.items c.loop-rest.rest.now c.loop-rest.invariant none in
    record { answer = r.0; facts = r.1; items = r.2; named = tt; loaded = loaded_so valid file (Ok tt) facts r.0 }
