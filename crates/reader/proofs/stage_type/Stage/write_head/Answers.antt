use Rattle.std.proofs.Common.{sym, ap, ◌∙◌}
use Rattle.rules.specs.Sets.{head_rules, head_draft}
use Rattle.rules_file.specs.RuleRows.{write_head}
use Rattle.reader.specs.RuleScan.{cells, stage_seen}
use Rattle.reader.specs.declared.stage_type.Stage.{Stage}
use Rattle.reader.proofs.RuleSteps.{head-written}
use Rattle.reader.proofs.stage_type.Stage.write_head.Goals as goal

pub returns-in-Head-clause-step : goal.returns-in-Head-clause-step
returns-in-Head-clause-step g c =
    head-written g.W.Words.system.valid c.args.row.now.row (cells c.args.row.now) (head_rules c.in-Head.rule) c.in-Head.field-1 (head_draft c.in-Head.rule) c.args.sort (head_draft c.add_head.new.rule) (head_rules c.add_head.new.rule) c.add_head.result c.add_head.ensures.rules c.add_head.ensures.draft ∙ ap (λ (s : Stage g.row.W.Denot). write_head g.W.Words.system.valid c.args.row.now.row (cells c.args.row.now) c.args.sort (stage_seen s)) (sym c.in-Head.is)
