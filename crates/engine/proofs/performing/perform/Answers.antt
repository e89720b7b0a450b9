use Rattle.std.proofs.Common.{take, ◌<◌, [], ◌∙◌, arith}
use Rattle.std.proofs.lemmas.List.{get_or-take, length-take}
use Rattle.rules.specs.Sets.{closed_rules}
use Rattle.machine.specs.Ledger.{created}
use Rattle.engine.specs.declared.act_types.Act.{Act}
use Rattle.engine.specs.declared.act_types.Act.TheVariants.{Post}
use Rattle.engine.specs.Acts.{with_acts, begun_with}
use Rattle.engine.specs.Jobs.{state_of, frame_of, frame_on}
use Rattle.engine.proofs.Acts.{history_acts, kept, done_more}
use Rattle.engine.proofs.performing.perform.Goals as goal

-- an act that stands for one that is not there
abbrev no_act : Act
no_act = Post (record { ref_ptr = (0, 0); now = [] })

pub loop-done-preserved : goal.loop-done-preserved
loop-done-preserved g c =
    let meaning = g.S.Store.meaning in
    let system = g.W.Words.system in
    let acts = c.args.acts.now in
    let l = c.loop-done in
    let a = c.do_act in
    let n = c.min-count.result in
    let first : l.done < n = omega (arith, c.loop-done-test.true, length-take n acts) in
    let more = done_more (frame_of system meaning c.create-job.result) (frame_of system meaning l.job) acts (begun_with c.args.list.now) l.done (state_of meaning l.job) l.list c.args.replies.now l.replies no_act (state_of meaning a.new.job) a.new.list a.result
    l.invariant.frame (record { state = l.invariant.state; list = l.invariant.list; replies = l.invariant.replies; rest = l.invariant.rest }) (omega (arith, first, c.min-count.ensures)) (omega (arith, first, c.min-count.ensures))
    _ (get_or-take n acts l.done no_act first) a.ensures.reply a.ensures.state a.ensures.list in
    record {
      frame = a.ensures.frame ∙ l.invariant.frame;
      state = more.state;
      list = more.list;
      replies = more.replies;
      rest = more.rest;
    }

pub returns-clause-promises : goal.returns-clause-promises
returns-clause-promises g c =
    let fr = frame_on g.W.Words.system (closed_rules c.args.set) (g.S.Store.meaning c.args.store) in
    let d = with_acts fr (take c.min-count.result c.args.acts.now) (begun_with c.args.list.now) in
    kept fr (record { stands = c.args.set.stands }) d.history d.state (history_acts fr (take c.min-count.result c.args.acts.now) (begun_with c.args.list.now) created)
