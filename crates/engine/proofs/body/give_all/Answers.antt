use Rattle.std.proofs.Common.{ℕ, Some, None, List, [], Option, map, flat_map, get_or, arith}
use Rattle.facts.specs.declared.fact_types.Fact.{Fact}
use Rattle.rules.specs.declared.rule_types.GiveAll.{GiveAll}
use Rattle.stores.specs.Store.{facts}
use Rattle.engine.specs.Searching.{pairs_at}
use Rattle.machine.specs.Fitting.{given}
use Rattle.engine.specs.Letters.{setting_in}
use Rattle.engine.specs.Taking.{given_over, labels_over}
use Rattle.engine.proofs.Bodies.{gives-count, all-more, all_stop, gives_along, length-given_over}
use Rattle.engine.proofs.body.give_all.Goals as goal

abbrev no_giveall : GiveAll
no_giveall = record { over = 0; each = record { kind = 0; terms = [] } }

pub returns-in_err-give_over : goal.returns-in_err-give_over
returns-in_err-give_over g c =
    let ps = (g.S.Store.meaning c.args.store.now).pairs in
    let σ = setting_in c.args.letters.now in
    let i = c.loop-giveall.giveall-index in
    let one = get_or c.args.givealls.now i no_giveall in
    let give = given_over g.W.Words.system σ ps c.args.taken.now in
    let given_for : List ℕ → List (Option Fact) = λ ls. map (λ (f : Fact). given g.W.Words.system σ f.words one.each) (facts (pairs_at ps ls)) in
    let h = gives_along given_for c.labels_over-labels.result.now (labels_over one.over c.args.taken.now) c.loop-giveall.body c.give_over.new.body c.give_over.result None c.labels_over-labels.ensures.labels c.in_err-give_over.was c.give_over.ensures in
    rw c.from_residual.ensures (all_stop give c.args.givealls.now i no_giveall c.args.body.now c.loop-giveall.body c.give_over.new.body (flat_map give c.args.givealls.now) c.loop-giveall.invariant.1 c.loop-giveall-test.true h)

pub loop-giveall-preserved : goal.loop-giveall-preserved
loop-giveall-preserved g c =
    let ps = (g.S.Store.meaning c.args.store.now).pairs in
    let σ = setting_in c.args.letters.now in
    let i = c.loop-giveall.giveall-index in
    let one = get_or c.args.givealls.now i no_giveall in
    let give = given_over g.W.Words.system σ ps c.args.taken.now in
    let given_for : List ℕ → List (Option Fact) = λ ls. map (λ (f : Fact). given g.W.Words.system σ f.words one.each) (facts (pairs_at ps ls)) in
    let h = gives_along given_for c.labels_over-labels.result.now (labels_over one.over c.args.taken.now) c.loop-giveall.body c.give_over.new.body c.give_over.result (Some tt) c.labels_over-labels.ensures.labels c.in_ok-give_over.was c.give_over.ensures in
    let n = gives-count c.loop-giveall.body c.give_over.new.body (give one) h in
    let m = length-given_over g.W.Words.system σ ps c.args.taken.now one in
    (omega (arith, n, m, c.loop-giveall.invariant.0), all-more give c.args.givealls.now i no_giveall c.args.body.now c.loop-giveall.body c.give_over.new.body (flat_map give c.args.givealls.now) c.loop-giveall.invariant.1 c.loop-giveall-test.true h)
