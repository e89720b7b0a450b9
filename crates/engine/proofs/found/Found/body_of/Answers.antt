use Rattle.std.proofs.Common.{Some, None, List, [], Option, map, flat_map, refl, arith, rules}
use Rattle.std.proofs.lemmas.List.{length-map}
use Rattle.lists.specs.Held.{held}
use Rattle.lists.proofs.Held.{held-count}
use Rattle.rules.specs.declared.rule_types.Template.{Template}
use Rattle.rules.specs.declared.rule_types.GiveAll.{GiveAll}
use Rattle.facts.specs.declared.fact_types.Fact.{Fact}
use Rattle.rules.specs.Rules.{rule_seen}
use Rattle.machine.specs.Fitting.{given}
use Rattle.engine.specs.Letters.{setting_in}
use Rattle.engine.specs.Taking.{all_taken, given_over, HasFacts}
use Rattle.engine.specs.declared.body_type.Body.{Body}
use Rattle.engine.proofs.Bodies.{gives_along, gives-count, took_held, found, body_stops, body-ends}
use Rattle.engine.proofs.found.Found.body_of.Goals as goal

-- the body without its facts
abbrev empty : Body → Body
empty b = record { facts = b.facts; count = 0 }

pub returns-in_err-give_each : goal.returns-in_err-give_each
returns-in_err-give_each g c =
    let s = g.W.Words.system in
    let σ = setting_in c.args.self.choice.now.letters in
    let chosen = held c.args.self.choice.now.labels in
    let m = g.S.Store.meaning c.args.store.now in
    let r = rule_seen c.args.self.rule.now in
    let gives : List Template → List (Option Fact) = map (given s σ []) in
    let f = found s σ c.args.self.rule.now chosen m c.args.taken.now (g.S.Store.owed c.args.store.now) c.requires in
    let h = gives_along gives c.as_slice.result.now (held c.args.self.rule.now.gives) (empty c.args.made.now) c.give_each.new.body c.give_each.result None c.as_slice.ensures.items c.in_err-give_each.was c.give_each.ensures in
    rw c.from_residual.ensures (body_stops s σ r (all_taken s σ r chosen m.pairs) m.pairs c.args.taken.now (empty c.args.made.now) c.give_each.new.body f h)

pub give_all-requires-clause-held : goal.give_all-requires-clause-held
give_all-requires-clause-held g c =
    let chosen = held c.args.self.choice.now.labels in
    took_held g.W.Words.system (setting_in c.args.self.choice.now.letters) (rule_seen c.args.self.rule.now) chosen (g.S.Store.meaning c.args.store.now) c.args.taken.now c.requires

pub give_all-requires-clause-few : goal.give_all-requires-clause-few
give_all-requires-clause-few g c =
    let s = g.W.Words.system in
    let σ = setting_in c.args.self.choice.now.letters in
    let gives : List Template → List (Option Fact) = map (given s σ []) in
    let h = gives_along gives c.as_slice.result.now (held c.args.self.rule.now.gives) (empty c.args.made.now) c.give_each.new.body c.give_each.result (Some tt) c.as_slice.ensures.items c.in_ok-give_each.was c.give_each.ensures in
    omega (
      arith,
      gives-count (empty c.args.made.now) c.give_each.new.body (gives (held c.args.self.rule.now.gives)) h,
      length-map (held c.args.self.rule.now.gives) (given s σ []),
      held-count c.args.self.rule.now.gives,
      c.args.self.rule.now.gives.few,
      c.as_slice-2.ensures.bound,
    )

pub returns : goal.returns
returns g c =
    let s = g.W.Words.system in
    let σ = setting_in c.args.self.choice.now.letters in
    let chosen = held c.args.self.choice.now.labels in
    let m = g.S.Store.meaning c.args.store.now in
    let r = rule_seen c.args.self.rule.now in
    let gives : List Template → List (Option Fact) = map (given s σ []) in
    let givealls : List GiveAll → List (Option Fact) = flat_map (given_over s σ m.pairs c.args.taken.now) in
    let f = found s σ c.args.self.rule.now chosen m c.args.taken.now (g.S.Store.owed c.args.store.now) c.requires in
    let h = gives_along gives c.as_slice.result.now (held c.args.self.rule.now.gives) (empty c.args.made.now) c.give_each.new.body c.give_each.result (Some tt) c.as_slice.ensures.items c.in_ok-give_each.was c.give_each.ensures in
    let k = gives_along givealls c.as_slice-2.result.now (held c.args.self.rule.now.givealls) c.give_each.new.body c.give_all.new.body c.give_all.result c.give_all.result c.as_slice-2.ensures.items refl c.give_all.ensures in
    let e : HasFacts [] (empty c.args.made.now) = record { count = refl; facts = refl; wide = search rules } in
    body-ends s σ r (all_taken s σ r chosen m.pairs) m.pairs c.args.taken.now (empty c.args.made.now) c.give_each.new.body c.give_all.new.body c.give_all.result e f h k
