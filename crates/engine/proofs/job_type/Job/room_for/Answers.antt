use Rattle.std.proofs.Common.{arith}
use Rattle.rules.specs.Sets.{closed_rules}
use Rattle.engine.proofs.Seen.{seen_and_unseen}
use Rattle.engine.proofs.job_type.Job.room_for.Goals as goal

pub room_in_job-requires-clause-stored : goal.room_in_job-requires-clause-stored
room_in_job-requires-clause-stored g c =
    let count = seen_and_unseen (closed_rules c.args.self.now.set) c.args.facts.now in
    omega (arith, count, c.watched_count.ensures)
