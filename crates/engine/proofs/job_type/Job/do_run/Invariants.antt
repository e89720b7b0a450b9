use Rattle.std.proofs.Common.{◌≡◌, ◌-◌}
use Rattle.engine.specs.Jobs.{state_of, frame_of}
use Rattle.engine.proofs.JobRuns.{IsRunTo}
use Rattle.engine.proofs.job_type.Job.do_run.Given as goal

abbrev pub invariant-loop-budget : goal.invariant-loop-budget
invariant-loop-budget g l =
    let meaning = g.S.Store.meaning in
    let system = g.W.Words.system in
    let was = l.initial.self in
    record {
      frame : frame_of system meaning l.self ≡ frame_of system meaning was;
      run : IsRunTo (frame_of system meaning was) l.budget l.initial.list (state_of meaning was) l.steps l.applications l.list (state_of meaning l.self);
    }

abbrev pub decreases-loop-budget : goal.decreases-loop-budget
decreases-loop-budget g l = l.budget - l.steps
