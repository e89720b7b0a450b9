use Rattle.std.proofs.Common.{arith}
use Rattle.rules.specs.Sets.{closed_rules}
use Rattle.engine.proofs.ApplyPlaces.{rule_in, place_in_lem, record_stands, record_place}
use Rattle.engine.proofs.job_type.Job.try_at.Goals as goal

pub rule_of-rule-requires : goal.rule_of-rule-requires
rule_of-rule-requires g c = rule_in (closed_rules c.args.self.now.set) c.args.place c.args.number c.requires.place

pub search-found-requires-clause-stands : goal.search-found-requires-clause-stands
search-found-requires-clause-stands g c =
    record_stands (closed_rules c.args.self.now.set) c.args.place c.args.number c.requires.place c.rule_of-rule.result.now c.rule_of-rule.ensures.record c.rule_of-rule.ensures.stands

pub search-found-requires-clause-place : goal.search-found-requires-clause-place
search-found-requires-clause-place g c =
    let h = record_place (closed_rules c.args.self.now.set) c.args.place c.args.number c.requires.place c.rule_of-rule.result.now c.rule_of-rule.ensures.record in
    omega (arith, h, c.from.ensures)

pub apply-requires-clause-place : goal.apply-requires-clause-place
apply-requires-clause-place g c = place_in_lem (closed_rules c.args.self.now.set) c.args.place c.args.number c.requires.place

pub apply-requires-clause-rule : goal.apply-requires-clause-rule
apply-requires-clause-rule g c = rule_in (closed_rules c.args.self.now.set) c.args.place c.args.number c.requires.place
