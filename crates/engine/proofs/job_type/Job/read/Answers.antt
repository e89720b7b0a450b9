use Rattle.engine.specs.Jobs.{state_of, frame_of}
use Rattle.engine.proofs.Upholding.{read_upholds}
use Rattle.engine.proofs.job_type.Job.read.Goals as goal

pub returns-clause-upheld : goal.returns-clause-upheld
returns-clause-upheld g c =
    let meaning = g.S.Store.meaning in
    let was = c.args.self.now in
    read_upholds (frame_of g.W.Words.system meaning was) (record { stands = was.set.stands }) (state_of meaning was) c.args.label c.read.result c.count.result c.len.result c.read.ensures c.count.ensures c.len.ensures.count
