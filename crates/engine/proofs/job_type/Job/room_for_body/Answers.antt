use Rattle.std.proofs.Common.{◌-◌, take, arith, length-take}
use Rattle.rules.specs.Closed.{watched}
use Rattle.rules.specs.Sets.{closed_rules}
use Rattle.stores.proofs.Pairs.{length-kept}
use Rattle.engine.proofs.job_type.Job.room_for_body.Goals as goal

pub room_in_job-requires-clause-stored : goal.room_in_job-requires-clause-stored
room_in_job-requires-clause-stored g c =
    let kept = take (c.min-kept.result - 0) c.args.self.now.scratch.body.facts in
    omega (arith, c.min-kept.ensures, c.watched_count-watched.ensures, length-kept (watched (closed_rules c.args.self.now.set)) kept, length-take (c.min-kept.result - 0) c.args.self.now.scratch.body.facts)
