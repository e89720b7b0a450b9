use Rattle.engine.specs.Jobs.{state_of, frame_of}
use Rattle.engine.proofs.Upholding.{run_upholds}
use Rattle.engine.proofs.job_type.Job.run_with.Goals as goal

pub returns-clause-upheld : goal.returns-clause-upheld
returns-clause-upheld g c =
    let meaning = g.S.Store.meaning in
    let was = c.args.self.now in
    let r = c.do_run.result in
    run_upholds (frame_of g.W.Words.system meaning was) (record { stands = was.set.stands }) (state_of meaning was) c.args.list.now c.do_run.new.list c.args.budget r.0 r.1 r.2 (state_of meaning c.do_run.new.self) c.do_run.ensures.outcome
