use Rattle.std.proofs.Common.{◌∙◌, rules, sym, ap}
use Rattle.std.proofs.lemmas.Iterator.{YieldsList-from_slice}
use Rattle.std.proofs.lemmas.Iterator.Search.{any_from_yields_List}
use borrow.Author.Tests.{tests}
use Rattle.lists.specs.Held.{held}
use Rattle.rules.specs.Rules.{any, is_letter}
use Rattle.rules.proofs.Anys.{list_any-is}
use Rattle.rules.proofs.Records.{singles-seen}
use Rattle.rules.proofs.judging.is_bound.Goals as goal

pub returns : goal.returns
returns c =
    any_from_yields_List (λ p. any (is_letter c.args.letter) p.args) _ _ c.any.result c.any.ensures.ran (YieldsList-from_slice (held c.args.rule.now.singles) cc) (λ x b q k. search (rules, tests))
    ∙ list_any-is (λ p. any (is_letter c.args.letter) p.args) (held c.args.rule.now.singles)
    ∙ ap (any (λ p. any (is_letter c.args.letter) p.args)) (sym (singles-seen c.args.rule.now))
