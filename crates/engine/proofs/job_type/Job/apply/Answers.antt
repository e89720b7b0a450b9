use Rattle.std.proofs.Common.{◌≡◌, ◌+◌, [], get_or, subst, sym, ◌∙◌, add-one, rules}
use Rattle.std.proofs.lemmas.List.{length-map}
use Rattle.stores.specs.Store.{label}
use Rattle.engine.proofs.Takings.{count-took}
use Rattle.rules.specs.Sets.{closed_rules}
use Rattle.rules.specs.Closed.{heads_of}
use Rattle.machine.specs.declared.answer_types.Answer.TheVariants.{Refused}
use Rattle.machine.specs.Machine.{State, taken_of, chosen, shortage, bring, listed, try_choice}
use Rattle.engine.specs.Applying.{rule_at, place_at, choice_in, facts_in, left_by, leaving_labels, used_labels}
use Rattle.engine.specs.Goals.{below}
use Rattle.engine.specs.Jobs.{state_of, frame_of, frame_on, IsOutcome}
use Rattle.engine.proofs.ApplyOutcomes.{apply_done, apply_refused, room_carried}
use Rattle.engine.proofs.ApplyWeighed.{found-is, whole-chosen}
use Rattle.engine.proofs.job_type.Job.apply.Goals as goal

pub carry_out-requires-clause-room : goal.carry_out-requires-clause-room
carry_out-requires-clause-room g c =
    let j = c.args.self.now in
    let n = c.weigh.new.self in
    let p = c.args.place in
    let x = c.args.choice.now in
    let m = g.S.Store.meaning in
    let s = g.W.Words.system in
    let r = rule_at (closed_rules j.set) p in
    let o = chosen s r p.place c.args.active (m j.store).pairs in
    let f = found-is r o x c.requires.found in
    let e = c.in-Ok.ensures in
    let st : state_of m n ≡ state_of m j = λ i. record { pairs = (m (e.store i)).pairs; next = e.next i; goals = e.goals i } in
    let fr : frame_of s m n ≡ frame_of s m j = λ i. frame_on s (closed_rules (e.set i)) (m (e.store i)) in
    (λ i. shortage (fr i) (facts_in n.scratch.body) (left_by (leaving_labels (rule_at (closed_rules (e.set i)) p) x n.scratch.taken) c.in-Ok.weighed.goes (st i)))
    ∙ room_carried (frame_of s m j) (place_at (closed_rules j.set) p) c.args.active (state_of m j) (choice_in o) n.scratch.taken n.scratch.body c.in-Ok.weighed x e.weighed f.labels

pub carry_out-requires-clause-whole : goal.carry_out-requires-clause-whole
carry_out-requires-clause-whole g c =
    let j = c.args.self.now in
    let p = c.args.place in
    let m = g.S.Store.meaning j.store in
    let r = rule_at (closed_rules j.set) p in
    whole-chosen g.W.Words.system r p.place c.args.active m.pairs c.args.choice.now c.requires.found
    ∙ (λ i. heads_of (rule_at (closed_rules (sym c.in-Ok.ensures.set i)) p))

pub returns-in-Err-clause-outcome : goal.returns-in-Err-clause-outcome
returns-in-Err-clause-outcome g c =
    let j = c.args.self.now in
    let n = c.weigh.new.self in
    let p = c.args.place in
    let m = g.S.Store.meaning in
    let s = g.W.Words.system in
    let r = rule_at (closed_rules j.set) p in
    let o = chosen s r p.place c.args.active (m j.store).pairs in
    let f = found-is r o c.args.choice.now c.requires.found in
    let e = c.in-Err.ensures in
    let st : state_of m n ≡ state_of m j = λ i. record { pairs = (m (e.store i)).pairs; next = e.next i; goals = e.goals i } in
    subst (λ (z : State). IsOutcome (try_choice (frame_of s m j) (place_at (closed_rules j.set) p) c.args.active c.args.number (below j.goals) (state_of m j) c.args.list.now o) z (Refused c.in-Err.fault) c.args.list.now) (sym st)
    (apply_refused (frame_of s m j) (place_at (closed_rules j.set) p) c.args.active c.args.number (state_of m j) c.args.list.now (choice_in o) o c.in-Err.fault c.requires.top f.chosen e.weighed)

pub returns-in-Ok-clause-outcome : goal.returns-in-Ok-clause-outcome
returns-in-Ok-clause-outcome g c =
    let j = c.args.self.now in
    let n = c.weigh.new.self in
    let p = c.args.place in
    let x = c.args.choice.now in
    let m = g.S.Store.meaning in
    let s = g.W.Words.system in
    let r = rule_at (closed_rules j.set) p in
    let o = chosen s r p.place c.args.active (m j.store).pairs in
    let f = found-is r o x c.requires.found in
    let e = c.in-Ok.ensures in
    let st : state_of m n ≡ state_of m j = λ i. record { pairs = (m (e.store i)).pairs; next = e.next i; goals = e.goals i } in
    let ts = taken_of s r (m j.store).pairs (choice_in o) in
    apply_done (frame_of s m j) (place_at (closed_rules j.set) p) c.args.active (state_of m j) (choice_in o) n.scratch.taken n.scratch.body c.in-Ok.weighed x e.weighed f.labels
    c.args.number c.args.list.now c.len.result c.len-in-Ok.result (c.len.ensures.count ∙ (count-took n.scratch.taken ts 0 c.index-self-0.result e.weighed.took (search rules) ∙ length-map (get_or ts 0 []) label)) (c.len-in-Ok.ensures.count ∙ (count-took n.scratch.taken ts 1 c.index-self-1.result e.weighed.took (search rules) ∙ length-map (get_or ts 1 []) label)) o c.requires.top f.chosen (state_of m c.carry_out.new.self) c.carry_out.new.list (p.rule + 1) (add-one p.rule)
    (c.carry_out.ensures.state ∙ (λ i. bring (closed_rules (e.set i)) (facts_in n.scratch.body) (left_by (leaving_labels (rule_at (closed_rules (e.set i)) p) x n.scratch.taken) c.in-Ok.weighed.goes (st i))))
    (c.carry_out.ensures.list ∙ (λ i. listed (used_labels x n.scratch.taken) c.args.list.now))
