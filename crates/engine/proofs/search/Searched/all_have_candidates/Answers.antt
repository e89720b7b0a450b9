use Rattle.std.proofs.Common.{◌∙◌, rules, ◌||◌, is_some}
use Rattle.std.specs.Prelude.{◌==◌}
use Rattle.std.proofs.lemmas.Iterator.{YieldsList-from_slice}
use Rattle.std.proofs.lemmas.Iterator.Consumers.{YieldsList-from_enumerate}
use Rattle.std.proofs.lemmas.Iterator.Search.{all_from_yields_List}
use borrow.Author.Tests.{tests}
use Rattle.lists.specs.Held.{held}
use Rattle.stores.specs.Store.{next_that}
use Rattle.engine.specs.Searching.{is_candidate}
use Rattle.engine.proofs.Tests.{list_all-places}
use Rattle.engine.proofs.search.Searched.all_have_candidates.Goals as goal

pub returns : goal.returns
returns g c =
    let ps = (g.S.Store.meaning c.args.self.now.store.now).pairs in
    let l = c.args.letters.now in
    let heads = held c.args.self.now.rule.now.singles in
    all_from_yields_List (λ x. x.0 == c.args.self.now.place || is_some (next_that (is_candidate l x.1) 0 ps)) _ _ c.all.result c.all.ensures.ran (YieldsList-from_enumerate (YieldsList-from_slice heads cc) cc) (λ x b q k. search (rules, tests))
    ∙ list_all-places ps l c.args.self.now.place 0 heads
