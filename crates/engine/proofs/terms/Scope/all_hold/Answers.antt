use Rattle.std.proofs.Common.{◌∙◌, rules}
use Rattle.std.proofs.lemmas.Iterator.{YieldsList-from_slice}
use Rattle.std.proofs.lemmas.Iterator.Search.{all_from_yields_List}
use borrow.Author.Tests.{tests}
use Rattle.machine.specs.Fitting.{holds}
use Rattle.engine.specs.Letters.{setting_in}
use Rattle.engine.proofs.Tests.{list_all-is}
use Rattle.engine.proofs.terms.Scope.all_hold.Goals as goal

pub returns : goal.returns
returns g c =
    let test = holds g.W.Words.system (setting_in c.args.self.letters.now) c.args.self.taken.now in
    let cs = c.args.comparisons.now in
    all_from_yields_List test _ _ c.all.result c.all.ensures.ran (YieldsList-from_slice cs cc) (λ x b q k. search (rules, tests))
    ∙ list_all-is test cs
