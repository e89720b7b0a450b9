use Rattle.engine.specs.Jobs.{state_of, frame_of}
use Rattle.engine.proofs.Upholding.{step_upholds}
use Rattle.engine.proofs.job_type.Job.step.Goals as goal

pub returns-clause-upheld : goal.returns-clause-upheld
returns-clause-upheld g c =
    let meaning = g.S.Store.meaning in
    let was = c.args.self.now in
    step_upholds (frame_of g.W.Words.system meaning was) (record { stands = was.set.stands }) (state_of meaning was) c.args.list.now c.do_step.new.list c.do_step.result (state_of meaning c.do_step.new.self) c.do_step.ensures.outcome
