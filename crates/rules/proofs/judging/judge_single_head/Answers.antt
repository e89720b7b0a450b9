use Rattle.std.proofs.Common.{◌≡◌, Ok, pos, rules}
use Rattle.std.proofs.lemmas.Iterator.{YieldsList-from_slice}
use borrow.Author.Tests.{tests}
use Rattle.rules.specs.Writing.{kind_verdict, single_verdict}
use Rattle.rules.proofs.Eachs.{each_from_yields_List}
use Rattle.rules.proofs.judging.judge_single_head.Goals as goal

pub returns : goal.returns
returns g c =
    let judged = each_from_yields_List (single_verdict g.W.Words.system.valid) _ _ c.try_for_each.result c.try_for_each.ensures.ran (YieldsList-from_slice c.args.pattern.now.args cc) (λ x v q k. search (rules, tests)) in
    let kind : kind_verdict (pos c.args.pattern.now.kind) ≡ Ok c.in_ok-judge_kind.field-0 = search rules in
    rw kind judged
