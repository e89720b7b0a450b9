use Rattle.std.proofs.Common.{◌≡◌, Ok, pos, rules}
use Rattle.std.proofs.lemmas.Iterator.{YieldsList-from_slice}
use borrow.Author.Tests.{tests}
use Rattle.rules.specs.Rules.{rule_seen}
use Rattle.rules.specs.Writing.{kind_verdict, term_verdict}
use Rattle.rules.proofs.Eachs.{each_from_yields_List}
use Rattle.rules.proofs.judging.Scope.judge_template.Goals as goal

pub returns : goal.returns
returns g c =
    let judged = each_from_yields_List (term_verdict g.W.Words.system.valid (rule_seen c.args.self.rule.now) c.args.self.taken) _ _ c.try_for_each.result c.try_for_each.ensures.ran (YieldsList-from_slice c.args.template.now.terms cc) (λ x v q k. search (rules, tests)) in
    let kind : kind_verdict (pos c.args.template.now.kind) ≡ Ok c.in_ok-judge_kind.field-0 = search rules in
    rw kind judged
