use Rattle.std.proofs.Common.{◌≡◌, Bool, ◌∙◌, ◌&&◌, not, map, sym, ap, rules}
use Rattle.std.proofs.lemmas.Iterator.{YieldsList-from_slice}
use Rattle.std.proofs.lemmas.Iterator.Search.{any_from_yields_List}
use borrow.Author.Tests.{tests}
use Rattle.rules.specs.Rules.{AllHead, any, all_seen}
use Rattle.machine.specs.Fitting.{fits_all_head}
use Rattle.engine.specs.Letters.{setting_in}
use Rattle.engine.proofs.Tests.{list_any-map}
use Rattle.engine.proofs.taking.Taker.takes.Goals as goal

pub returns-then-not-taken : goal.returns-then-not-taken
returns-then-not-taken g c =
    let t = c.args.self.now in
    let s = g.W.Words.system in
    let σ = setting_in t.letters.now in
    let test : AllHead → Bool = λ a. fits_all_head s σ a c.args.fact.now in
    let e : c.any-taken.result ≡ any test (map all_seen t.earlier.now) =
    any_from_yields_List (λ a. test (all_seen a)) _ _ c.any-taken.result c.any-taken.ensures.ran (YieldsList-from_slice t.earlier.now cc) (λ x b q k. search (rules, tests))
    ∙ list_any-map all_seen test t.earlier.now in
    c.fits_all_head.ensures ∙ ap (λ b. not b && test (all_seen t.all.now)) (sym c.if-not-taken.true ∙ e)

pub returns-else-not-taken : goal.returns-else-not-taken
returns-else-not-taken g c =
    let t = c.args.self.now in
    let s = g.W.Words.system in
    let σ = setting_in t.letters.now in
    let test : AllHead → Bool = λ a. fits_all_head s σ a c.args.fact.now in
    let e : c.any-taken.result ≡ any test (map all_seen t.earlier.now) =
    any_from_yields_List (λ a. test (all_seen a)) _ _ c.any-taken.result c.any-taken.ensures.ran (YieldsList-from_slice t.earlier.now cc) (λ x b q k. search (rules, tests))
    ∙ list_any-map all_seen test t.earlier.now in
    ap not c.if-not-taken.false ∙ ap (λ b. not b && test (all_seen t.all.now)) (sym c.if-not-taken.false ∙ e)
