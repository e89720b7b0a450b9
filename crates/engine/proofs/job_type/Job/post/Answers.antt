use Rattle.engine.specs.Jobs.{state_of, frame_of}
use Rattle.engine.proofs.Upholding.{post_upholds}
use Rattle.engine.proofs.job_type.Job.post.Goals as goal

pub returns-clause-upheld : goal.returns-clause-upheld
returns-clause-upheld g c =
    let meaning = g.S.Store.meaning in
    let was = c.args.self.now in
    post_upholds (frame_of g.W.Words.system meaning was) (record { stands = was.set.stands }) (state_of meaning was) c.args.facts.now c.do_post.result (state_of meaning c.do_post.new.self) c.do_post.ensures.answer c.do_post.ensures.state
