use Rattle.std.proofs.Common.{◌≡◌, replicate, Ok, refl, sym, ap, ◌∙◌}
use Rattle.facts.specs.Lengths.{lengths}
use Rattle.rules.specs.Sets.{closed_rules}
use Rattle.machine.specs.Machine.{empty_state, post_answer, after_post}
use Rattle.engine.specs.Jobs.{frame_of, frame_on, state_of, create_answer}
use Rattle.printing.proofs.Ends.{ended, posted}
use Rattle.printing.proofs.driving.print_job.Goals as goal

pub returns : goal.returns
returns g c =
    let meaning = g.S.Store.meaning in
    let fr = frame_on lengths (closed_rules c.args.set) (meaning c.args.store) in
    let made = c.create-job.ensures in
    let fine : create_answer (meaning c.args.store).pairs ≡ Ok tt = sym c.may_create.ensures ∙ c.in-Ok.is in
    let post : post_answer fr c.args.facts.now empty_state ≡ Ok tt = posted fr (frame_of lengths meaning c.create-job.result) (state_of meaning c.create-job.result) c.args.facts.now c.post.result made.frame made.state c.post.ensures.answer ∙ c.in-Ok-post.is in
    let fr1 = frame_of lengths meaning c.create-job.result in
    let st1 = state_of meaning c.create-job.result in
    let after : state_of meaning c.post.new.self ≡ after_post fr1 c.args.facts.now st1 (Ok tt) = c.post.ensures.state ∙ ap (after_post fr1 c.args.facts.now st1) c.in-Ok-post.is in
    rw (fine, post) (ended 100000 (replicate 512 0) fr fr1 (frame_of lengths meaning c.post.new.self) st1 (state_of meaning c.post.new.self) _ c.args.facts.now _ _ c.drive-end.result.0 c.drive-end.result.1 _ tt made.frame made.state after c.post.ensures.frame refl c.drive-end.ensures.run)
