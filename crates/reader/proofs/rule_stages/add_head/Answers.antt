use Rattle.rules.specs.Sets.{head_draft}
use Rattle.rules.specs.Writing.{add_head}
use Rattle.reader.specs.RuleScan.{cells}
use Rattle.reader.proofs.RuleCells.{cells_six}
use Rattle.reader.proofs.RuleSteps.{ComesTo}
use Rattle.reader.proofs.RuleSteps.{head_done}
use Rattle.reader.proofs.rule_stages.add_head.Goals as goal

pub returns : goal.returns
returns g c =
    let to : ComesTo c.add.result c.whole-whole.result c.placed-2.result (add_head g.W.Words.system.valid c.in_ok-part.part (head_draft c.args.rule.now)) (head_draft c.args.rule.now) (head_draft c.add.new.self) =
    record { answer = c.add.ensures.added.answer; after_it = c.add.ensures.added.written; told = c.placed-2.ensures } in
    record {
      draft = head_done g.W.Words.system.valid c.args.row.now.row (head_draft c.args.rule.now) (head_draft c.add.new.self) (cells c.args.row.now) (cells_six c.args.row.now) c.whole-whole.result c.may_add.result c.add.result c.placed-2.result c.in_ok-placed.ensures c.args.sort c.in_ok-part.part c.may_add.ensures c.in_ok-part.ensures to;
      rules = c.add.ensures.added.before;
    }
