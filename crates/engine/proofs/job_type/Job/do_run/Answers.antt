use Rattle.std.proofs.Common.{◌≤◌, ◌∙◌, sym, arith, length}
use Rattle.engine.specs.Jobs.{state_of, frame_of}
use Rattle.engine.proofs.JobRuns.{ends_quiet, ends_stopped, run_goes_on, no_goal_left, goal_left}
use Rattle.engine.proofs.job_type.Job.do_run.Goals as goal

pub returns-then-len-eq0-clause-outcome : goal.returns-then-len-eq0-clause-outcome
returns-then-len-eq0-clause-outcome g c =
    let meaning = g.S.Store.meaning in
    let was = c.args.self.now in
    let l = c.loop-budget in
    let wide : (meaning was.store).capacity ≤ length c.args.list.now = omega (arith, c.capacity.ensures) in
    ends_quiet (frame_of g.W.Words.system meaning was) c.args.budget c.args.list.now l.list (state_of meaning was) (state_of meaning l.self) l.steps l.applications wide l.invariant.run (no_goal_left (state_of meaning l.self) (sym c.len.ensures.count ∙ c.if-len-eq0.true))

pub returns-in-Refused-clause-outcome : goal.returns-in-Refused-clause-outcome
returns-in-Refused-clause-outcome g c =
    let meaning = g.S.Store.meaning in
    let was = c.args.self.now in
    let l = c.loop-budget in
    let s = c.do_step-answer in
    let wide : (meaning was.store).capacity ≤ length c.args.list.now = omega (arith, c.capacity.ensures) in
    let left = goal_left (state_of meaning l.self) (λ e. c.if-len-eq0.false (c.len.ensures.count ∙ e)) in
    ends_stopped (frame_of g.W.Words.system meaning was) c.args.budget c.args.list.now l.list (state_of meaning was) (state_of meaning l.self) l.steps l.applications c.in-Refused.fault (state_of meaning s.new.self) s.new.list s.result (frame_of g.W.Words.system meaning l.self) l.invariant.frame wide l.invariant.run c.if-steps-budget.false left s.ensures.outcome c.in-Refused.is

pub loop-budget-preserved : goal.loop-budget-preserved
loop-budget-preserved g c =
    let meaning = g.S.Store.meaning in
    let was = c.args.self.now in
    let l = c.loop-budget in
    let s = c.do_step-answer in
    let left = goal_left (state_of meaning l.self) (λ e. c.if-len-eq0.false (c.len.ensures.count ∙ e)) in
    record {
      frame = s.ensures.frame ∙ l.invariant.frame;
      run = run_goes_on (frame_of g.W.Words.system meaning was) c.args.budget c.args.list.now l.list (state_of meaning was) (state_of meaning l.self) l.steps l.applications (state_of meaning s.new.self) s.new.list s.result (frame_of g.W.Words.system meaning l.self) c.applications_of-applications.result l.invariant.frame c.applications_of-applications.ensures l.invariant.run c.if-steps-budget.false left s.ensures.outcome c.in_default.not-Refused;
    }
