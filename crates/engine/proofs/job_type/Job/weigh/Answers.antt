use Rattle.std.proofs.Common.{◌≡◌, Err, Result, ap, ◌∙◌, arith}
use Rattle.std.specs.Result.{result_ok}
use Rattle.stores.specs.Lists.{has}
use Rattle.machine.specs.declared.answer_types.StepFault.{StepFault}
use Rattle.machine.specs.declared.answer_types.StepFault.TheVariants as fault
use Rattle.rules.specs.Closed.{heads_of}
use Rattle.rules.specs.Sets.{closed_rules}
use Rattle.rules.proofs.Records.{singles-count}
use Rattle.engine.specs.Applying.{rule_at}
use Rattle.rules.specs.Writing.{no_parts}
use Rattle.engine.proofs.ApplyWeighed.{at-mem, whole-chosen, weighing_is, took-is, given-body, given-few, removed-few, refused_room, ready}
use Rattle.engine.proofs.Rooms.{room_full, room_free}
use Rattle.std.proofs.lemmas.Result.{err_from_is_err_and}
use Rattle.engine.proofs.job_type.Job.weigh.Goals as goal

pub invariant_of-found : goal.invariant_of-found
invariant_of-found g c =
    let j = c.args.self.now in
    let p = c.args.place in
    let n = whole-chosen g.W.Words.system (rule_at (closed_rules j.set) p) p.place c.args.active (g.S.Store.meaning j.store).pairs c.args.choice.now c.requires.found in
    record { whole = omega (arith, n, singles-count c.rule_of-rule.result.now, ap heads_of c.rule_of-rule.ensures.record) }

pub room_for_body-requires-clause-removed : goal.room_for_body-requires-clause-removed
room_for_body-requires-clause-removed g c =
    let j = c.args.self.now in
    let t = c.take_all.new.taken in
    let w = weighing_is g.W.Words.system (closed_rules j.set) j.next j.goals c.args.place c.args.active (g.S.Store.meaning j.store) c.rule_of-rule.result.now c.args.choice.now c.rule_of-rule.ensures.record (g.S.Store.owed j.store) c.requires.place c.requires.found in
    let n = removed-few w t (took-is w t c.take_all.ensures) in
    omega (arith, n, c.gone_count-removed.ensures)

pub room_for_body-requires-clause-few : goal.room_for_body-requires-clause-few
room_for_body-requires-clause-few g c =
    let j = c.args.self.now in
    let w = weighing_is g.W.Words.system (closed_rules j.set) j.next j.goals c.args.place c.args.active (g.S.Store.meaning j.store) c.rule_of-rule.result.now c.args.choice.now c.rule_of-rule.ensures.record (g.S.Store.owed j.store) c.requires.place c.requires.found in
    let y = given-body w c.body_of.new.made c.body_of.result (c.ok_or.ensures.ok_part ∙ ap result_ok c.in_ok-ok_or.was) c.body_of.ensures in
    let n = given-few w (closed_rules j.set) c.rule_of-rule.ensures.stands (at-mem (closed_rules j.set) c.args.place.rule no_parts c.requires.rule) y.0 y.1 in
    omega (arith, n, y.2.count)

same_fault : (e : StepFault) → ◌≡◌ {A = Result (Unit {0}) StepFault} (Err e) (Err fault.Body) → e ≡ fault.Body
same_fault e h = cc

pub returns-in_err-room_for_body-clause-weighed : goal.returns-in_err-room_for_body-clause-weighed
returns-in_err-room_for_body-clause-weighed g c =
    let j = c.args.self.now in
    let t = c.take_all.new.taken in
    let p = err_from_is_err_and c.from_residual-in_err-room_for_body.result c.from_residual-in_err-room_for_body.ensures.1 in
    let w = weighing_is g.W.Words.system (closed_rules j.set) j.next j.goals c.args.place c.args.active (g.S.Store.meaning j.store) c.rule_of-rule.result.now c.args.choice.now c.rule_of-rule.ensures.record (g.S.Store.owed j.store) c.requires.place c.requires.found in
    let y = given-body w c.body_of.new.made c.body_of.result (c.ok_or.ensures.ok_part ∙ ap result_ok c.in_ok-ok_or.was) c.body_of.ensures in
    rw (p.1, p.2) (refused_room w t (took-is w t c.take_all.ensures) c.gone_count-removed.result c.is_among-goes.result c.body_of.new.made y.0
    c.gone_count-removed.ensures (c.is_among-goes.ensures ∙ ap (has c.args.active) c.dropped.ensures.labels) c.requires.goal y.2 y.1 c.in_err-room_for_body.field-0.0 (room_full _ c.in_err-room_for_body.field-0.0 c.in_err-room_for_body.ensures))

pub returns-clause-weighed : goal.returns-clause-weighed
returns-clause-weighed g c =
    let j = c.args.self.now in
    let t = c.take_all.new.taken in
    let w = weighing_is g.W.Words.system (closed_rules j.set) j.next j.goals c.args.place c.args.active (g.S.Store.meaning j.store) c.rule_of-rule.result.now c.args.choice.now c.rule_of-rule.ensures.record (g.S.Store.owed j.store) c.requires.place c.requires.found in
    let y = given-body w c.body_of.new.made c.body_of.result (c.ok_or.ensures.ok_part ∙ ap result_ok c.in_ok-ok_or.was) c.body_of.ensures in
    ready w t (took-is w t c.take_all.ensures) c.gone_count-removed.result c.is_among-goes.result c.body_of.new.made y.0
    c.gone_count-removed.ensures (c.is_among-goes.ensures ∙ ap (has c.args.active) c.dropped.ensures.labels) c.requires.goal y.2 y.1 c.rule_of-rule.ensures.stands (at-mem (closed_rules j.set) c.args.place.rule no_parts c.requires.rule) (room_free _ c.in_ok-room_for_body.ensures)
