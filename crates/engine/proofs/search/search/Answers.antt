use Rattle.std.proofs.Common.{ℕ, List, sym, ap, subst, ◌∙◌}
use Rattle.std.specs.Option.{option_map}
use Rattle.lists.specs.Held.{held}
use Rattle.rules.specs.Rules.{rule_seen}
use Rattle.engine.specs.Searching.{IsPartial}
use Rattle.engine.proofs.SearchOrder.{owed-rising}
use Rattle.engine.proofs.SearchCalls.{search_unbound, search_lonely, search_partial, search_found}
use Rattle.engine.proofs.search.search.Goals as goal

pub returns-in_err-bind_fact : goal.returns-in_err-bind_fact
returns-in_err-bind_fact g c =
    rw c.from_residual.ensures
    (search_unbound g.W.Words.system c.args.rule.now c.args.place c.args.active (g.S.Store.meaning c.args.store.now).pairs c.args.fact.now
    c.as_slice.result.now c.as_slice.ensures.items c.requires.place c.requires.stands c.requires.held (owed-rising (g.S.Store.meaning c.args.store.now) (g.S.Store.owed c.args.store.now))
    (sym c.bind_fact.ensures ∙ ap (option_map (λ u. c.bind_fact.new.letters)) c.in_err-bind_fact.was))

pub returns-then-not-all_have_candidates : goal.returns-then-not-all_have_candidates
returns-then-not-all_have_candidates g c =
    search_lonely g.W.Words.system c.args.rule.now c.args.place c.args.active (g.S.Store.meaning c.args.store.now).pairs c.args.fact.now
    c.as_slice.result.now c.as_slice.ensures.items c.requires.place c.requires.stands c.requires.held (owed-rising (g.S.Store.meaning c.args.store.now) (g.S.Store.owed c.args.store.now))
    c.bind_fact.new.letters (sym c.bind_fact.ensures ∙ ap (option_map (λ u. c.bind_fact.new.letters)) c.in_ok-bind_fact.was)
    (sym c.if-not-all_have_candidates.ensures)

pub search_from-requires : goal.search_from-requires
search_from-requires g c =
    subst (λ (ls : List ℕ). IsPartial (g.S.Store.meaning c.args.store.now).pairs (rule_seen c.args.rule.now) c.args.place c.args.active ls c.bind_fact.new.letters) (sym c.new.ensures.held)
    (search_partial g.W.Words.system c.args.rule.now c.args.place c.args.active (g.S.Store.meaning c.args.store.now).pairs c.args.fact.now
    c.as_slice.result.now c.as_slice.ensures.items c.requires.place c.requires.stands c.requires.held (owed-rising (g.S.Store.meaning c.args.store.now) (g.S.Store.owed c.args.store.now))
    c.bind_fact.new.letters (sym c.bind_fact.ensures ∙ ap (option_map (λ u. c.bind_fact.new.letters)) c.in_ok-bind_fact.was))

pub returns : goal.returns
returns g c =
    search_found g.W.Words.system c.args.rule.now c.args.place c.args.active (g.S.Store.meaning c.args.store.now).pairs c.args.fact.now
    c.as_slice.result.now c.as_slice.ensures.items c.requires.place c.requires.stands c.requires.held (owed-rising (g.S.Store.meaning c.args.store.now) (g.S.Store.owed c.args.store.now))
    (held c.new.result) c.new.ensures.held c.search_from.result c.search_from.ensures
