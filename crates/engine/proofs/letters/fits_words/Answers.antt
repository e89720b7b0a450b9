use Rattle.std.proofs.Common.{◌∙◌, rules, length, ◌≡◌}
use Rattle.std.proofs.lemmas.Iterator.{YieldsList-from_slice, YieldsList-from_zip}
use Rattle.std.proofs.lemmas.Iterator.Search.{all_from_yields_List}
use borrow.Author.Tests.{tests}
use Rattle.machine.specs.Fitting.{fits_word}
use Rattle.engine.specs.Letters.{setting_in}
use Rattle.engine.proofs.Tests.{list_all-zip}
use Rattle.engine.proofs.letters.fits_words.Goals as goal

pub returns : goal.returns
returns c =
    let σ = setting_in c.args.letters.now in
    let args = c.args.args.now in
    let words = c.args.words.now in
    let same : length args ≡ length words = search rules in
    all_from_yields_List (λ x. fits_word σ x.0 x.1) c.all.new.self _ c.all.result c.all.ensures.ran (YieldsList-from_zip (YieldsList-from_slice args cc) (YieldsList-from_slice words cc)) (λ x b q k. search (rules, tests))
    ∙ list_all-zip σ args words same
