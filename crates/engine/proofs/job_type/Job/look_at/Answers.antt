use Rattle.std.proofs.Common.{◌∙◌, sym, ap, refl, []}
use Rattle.machine.specs.Machine.{Outcome}
use Rattle.engine.specs.Goals.{below}
use Rattle.engine.specs.Jobs.{state_of}
use Rattle.engine.proofs.Outcomes.{look_held, look_gone, same_state}
use Rattle.engine.proofs.job_type.Job.look_at.Goals as goal

pub returns-in-Some-clause-state : goal.returns-in-Some-clause-state
returns-in-Some-clause-state g c =
    let meaning = g.S.Store.meaning in
    let held = look_held c.args.label (below c.args.self.now.goals) (state_of meaning c.args.self.now) [] c.in-Some.field-0 (sym c.read.ensures ∙ c.in-Some.is) in
    same_state _ _ _ _ _ _ refl refl c.replace_top.ensures ∙ sym (ap (λ (o : Outcome). o.state) held)

pub returns-in-Some-clause-answer : goal.returns-in-Some-clause-answer
returns-in-Some-clause-answer g c =
    sym (ap (λ (o : Outcome). o.answer) (look_held c.args.label (below c.args.self.now.goals) (state_of g.S.Store.meaning c.args.self.now) [] c.in-Some.field-0 (sym c.read.ensures ∙ c.in-Some.is)))

pub returns-in-None-clause-state : goal.returns-in-None-clause-state
returns-in-None-clause-state g c =
    let meaning = g.S.Store.meaning in
    let gone = look_gone c.args.label (below c.args.self.now.goals) (state_of meaning c.args.self.now) [] (sym c.read.ensures ∙ c.in-None.is) in
    same_state _ _ _ _ _ _ refl refl c.pop.ensures.rest ∙ sym (ap (λ (o : Outcome). o.state) gone)

pub returns-in-None-clause-answer : goal.returns-in-None-clause-answer
returns-in-None-clause-answer g c =
    sym (ap (λ (o : Outcome). o.answer) (look_gone c.args.label (below c.args.self.now.goals) (state_of g.S.Store.meaning c.args.self.now) [] (sym c.read.ensures ∙ c.in-None.is)))
