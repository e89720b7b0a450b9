use Rattle.std.proofs.Common.{◌∙◌, sym, ap, refl, Some}
use Rattle.rules.specs.Closed.{head, place_seen}
use Rattle.rules.specs.Sets.{closed_rules}
use Rattle.engine.specs.Goals.{below}
use Rattle.engine.specs.Jobs.{state_of, frame_of}
use Rattle.engine.proofs.Outcomes.{try_held, try_gone, same_state}
use Rattle.engine.proofs.job_type.Job.try_label.Goals as goal

pub returns-in_default-clause-outcome : goal.returns-in_default-clause-outcome
returns-in_default-clause-outcome g c =
    let meaning = g.S.Store.meaning in
    let was = c.args.self.now in
    rw (try_gone (frame_of g.W.Words.system meaning was) c.args.label c.args.number (below was.goals) (state_of meaning was) c.args.list.now (sym c.read.ensures ∙ c.in_default.is))
    (record { state = same_state _ _ _ _ _ _ refl refl c.pop.ensures.rest; answer = refl; list = refl })

pub returns-clause-outcome : goal.returns-clause-outcome
returns-clause-outcome g c =
    let meaning = g.S.Store.meaning in
    let was = c.args.self.now in
    rw (try_held (frame_of g.W.Words.system meaning was) c.args.label c.args.number (below was.goals) (state_of meaning was) c.args.list.now c.in-Some.fact (place_seen (closed_rules was.set) (Some c.in-Some-head.place)) (sym c.read.ensures ∙ c.in-Some.is) (c.in-Some-head.ensures.place ∙ ap (head (closed_rules was.set)) c.from.ensures))
    c.try_at.ensures.outcome
