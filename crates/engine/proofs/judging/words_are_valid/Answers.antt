use Rattle.std.proofs.Common.{◌∙◌, rules}
use Rattle.std.proofs.lemmas.Iterator.{YieldsList-from_slice}
use Rattle.std.proofs.lemmas.Iterator.Search.{all_from_yields_List}
use borrow.Author.Tests.{tests}
use Rattle.engine.proofs.Tests.{list_all-is}
use Rattle.engine.proofs.judging.words_are_valid.Goals as goal

pub returns : goal.returns
returns g c =
    let valid = g.W.Words.system.valid in
    let ws = c.args.words.now in
    all_from_yields_List valid _ _ c.all.result c.all.ensures.ran (YieldsList-from_slice ws cc) (λ x b q k. search (rules, tests))
    ∙ list_all-is valid ws
