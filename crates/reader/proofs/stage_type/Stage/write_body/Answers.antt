use Rattle.std.proofs.Common.{sym, ap, ◌∙◌}
use Rattle.rules.specs.Sets.{body_rules, body_draft}
use Rattle.rules_file.specs.RuleRows.{State, write_body}
use Rattle.reader.specs.RuleScan.{cells, stage_seen}
use Rattle.reader.specs.declared.stage_type.Stage.{Stage}
use Rattle.reader.proofs.RuleSteps.{body-written}
use Rattle.reader.proofs.stage_type.Stage.write_body.Goals as goal

pub returns-in-Body-clause-step : goal.returns-in-Body-clause-step
returns-in-Body-clause-step g c =
    let was = ap (λ (s : Stage g.row.W.Denot). stage_seen s) (sym c.in-Body.is) ∙ c.begin_body.ensures.same in
    body-written g.W.Words.system.valid c.args.row.now.row (cells c.args.row.now) (body_rules c.in-Body.body) c.in-Body.field-1 (body_draft c.in-Body.body) c.args.sort (body_draft c.add_body.new.rule) (body_rules c.add_body.new.rule) c.add_body.result c.add_body.ensures.rules c.add_body.ensures.draft ∙ ap (λ (s : State). write_body g.W.Words.system.valid c.args.row.now.row (cells c.args.row.now) c.args.sort s) was
