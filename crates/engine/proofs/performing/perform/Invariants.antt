use Rattle.std.proofs.Common.{◌≡◌, take, drop}
use Rattle.engine.specs.Jobs.{state_of, frame_of}
use Rattle.engine.specs.Acts.{with_acts, begun_with, replies_of}
use Rattle.engine.proofs.performing.perform.Given as goal

abbrev pub invariant-loop-done : goal.invariant-loop-done
invariant-loop-done g l =
    let system = g.W.Words.system in
    let meaning = g.S.Store.meaning in
    let d = with_acts (frame_of system meaning l.initial.job) (take l.done l.acts) (begun_with l.initial.list) in
    record {
      frame : frame_of system meaning l.job ≡ frame_of system meaning l.initial.job;
      state : state_of meaning l.job ≡ d.state;
      list : l.list ≡ d.list;
      replies : take l.done l.replies ≡ replies_of d;
      rest : drop l.done l.replies ≡ drop l.done l.initial.replies;
    }
