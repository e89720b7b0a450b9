use Rattle.std.proofs.Common.{◌∙◌, sym}
use Rattle.engine.proofs.Verdicts.{verdict_kinds}
use Rattle.engine.proofs.job_type.Job.do_post.Goals as goal

pub bring_in-requires-clause-kinds : goal.bring_in-requires-clause-kinds
bring_in-requires-clause-kinds g c =
    verdict_kinds g.W.Words.system 1 c.args.facts.now c.in_ok-judge_facts.field-0 (sym c.judge_facts.ensures ∙ c.in_ok-judge_facts.was)
