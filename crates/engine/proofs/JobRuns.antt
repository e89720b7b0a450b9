-- A run, step by step.
use Rattle.std.proofs.Common.{◌≡◌, ℕ, zero, suc, ◌+◌, ◌-◌, ◌<◌, ◌≤◌, true, false, List, length, None, refl, sym, ap, subst, ◌∙◌, arith, ltb}
use Rattle.std.proofs.lemmas.Bool.Decides.{nat_tests}
use Rattle.machine.specs.declared.answer_types.Answer.{Answer}
use Rattle.machine.specs.declared.answer_types.Answer.TheVariants.{Quiet, Stored, Woken, Dropped, Passed, Applied, Refused}
use Rattle.machine.specs.declared.answer_types.End.{End}
use Rattle.machine.specs.declared.answer_types.End.TheVariants as ends
use Rattle.machine.specs.declared.answer_types.StepFault.{StepFault}
use Rattle.machine.specs.Machine.{Frame, State, Ran, ended, applications_of, after_step, no_goal, refusal, step, run_on, run}
use Rattle.machine.proofs.Walks.{refusals_leave}
use Rattle.engine.specs.Jobs.{IsOutcome, IsRun}

-- a run after so many steps and applications
abbrev pub further : ℕ → ℕ → Ran → Ran
further n a r = record { state = r.state; end = r.end; steps = n + r.steps; applications = a + r.applications; list = r.list }

further_more : (n a : ℕ) (y : Answer) (r : Ran) → further n a (after_step y r) ≡ further (n + 1) (a + applications_of y) r
further_more n a y r =
    let e : n + suc r.steps ≡ n + 1 + r.steps = omega arith in
    let f : a + (applications_of y + r.applications) ≡ a + applications_of y + r.applications = omega arith in
    rw (e, f) refl

run_quiet : (fr : Frame) (n : ℕ) (ns : List ℕ) (st : State) → no_goal st ≡ true → run_on fr n ns st ≡ ended ends.Quiet ns st
run_quiet fr zero ns st e = rw e refl
run_quiet fr (suc n) ns st e = rw e refl

run_stopped : (fr : Frame) (n : ℕ) (ns : List ℕ) (st : State) (e : StepFault) → 0 < n → no_goal st ≡ false → (step fr ns st).answer ≡ Refused e → run_on fr n ns st ≡ ended (ends.Stopped e) ns st
run_stopped fr zero ns st e h g r = absurd (omega arith)
run_stopped fr (suc n) ns st e h g r = rw (g, r) refl

run_more : (fr : Frame) (n : ℕ) (ns : List ℕ) (st : State) → no_goal st ≡ false → refusal (step fr ns st).answer ≡ None → run_on fr (suc n) ns st ≡ after_step (step fr ns st).answer (run_on fr n (step fr ns st).list (step fr ns st).state)
run_more fr n ns st g r = rw (g, r) refl

pub not_refused : (y : Answer) → ((e : StepFault) → y ≡ Refused e → ⊥) → refusal y ≡ None
not_refused Quiet h = refl
not_refused Stored h = refl
not_refused Woken h = refl
not_refused Dropped h = refl
not_refused Passed h = refl
not_refused (Applied a) h = refl
not_refused (Refused e) h = absurd (h e refl)

pub few_applications : (y : Answer) → applications_of y ≤ 1
few_applications Quiet = omega arith
few_applications Stored = omega arith
few_applications Woken = omega arith
few_applications Dropped = omega arith
few_applications Passed = omega arith
few_applications (Applied a) = omega arith
few_applications (Refused e) = omega arith

-- a run leads to this list and this state after so many steps and applications
pub record IsRunTo (fr : Frame) (budget : ℕ) (ns : List ℕ) (st : State) (taken applied : ℕ) (ns' : List ℕ) (st' : State) : Type 0 where
  pub allowed : taken ≤ budget
  pub few : applied ≤ taken
  pub same : run_on fr budget ns st ≡ further taken applied (run_on fr (budget - taken) ns' st')

finished : (fr : Frame) (budget : ℕ) (ns ns' : List ℕ) (st st' : State) (n a : ℕ) (e : End) → fr.capacity ≤ length ns → IsRunTo fr budget ns st n a ns' st' → run_on fr (budget - n) ns' st' ≡ ended e ns' st' → IsRun (run fr ns budget st) st' e n a ns'
finished fr budget ns ns' st st' n a e wide r h =
    let test : ltb (length ns) fr.capacity ≡ false = grind (arith, nat_tests) in
    let whole : run fr ns budget st ≡ further n a (ended e ns' st') = rw test (r.same ∙ ap (further n a) h) in
    rw whole (record { state = refl; end = refl; steps = omega arith; applications = omega arith; list = refl })

pub ends_quiet : (fr : Frame) (budget : ℕ) (ns ns' : List ℕ) (st st' : State) (n a : ℕ) → fr.capacity ≤ length ns → IsRunTo fr budget ns st n a ns' st' → no_goal st' ≡ true → IsRun (run fr ns budget st) st' ends.Quiet n a ns'
ends_quiet fr budget ns ns' st st' n a wide r g = finished fr budget ns ns' st st' n a ends.Quiet wide r (run_quiet fr (budget - n) ns' st' g)

pub ends_stopped : (fr : Frame) (budget : ℕ) (ns ns' : List ℕ) (st st' : State) (n a : ℕ) (e : StepFault) (st'' : State) (ns'' : List ℕ) (y : Answer) (fr' : Frame) → fr' ≡ fr → fr.capacity ≤ length ns → IsRunTo fr budget ns st n a ns' st' → (n ≡ budget → ⊥) → no_goal st' ≡ false → IsOutcome (step fr' ns' st') st'' y ns'' → y ≡ Refused e → IsRun (run fr ns budget st) st'' (ends.Stopped e) n a ns''
ends_stopped fr budget ns ns' st st' n a e st'' ns'' y fr' k wide r h g p z =
    let allowed = r.allowed in
    let o : IsOutcome (step fr ns' st') st'' y ns'' = subst (λ (f : Frame). IsOutcome (step f ns' st') st'' y ns'') k p in
    let refused = sym o.answer ∙ z in
    let same = o.state ∙ refusals_leave.step_state fr ns' st' e refused in
    let list = o.list ∙ refusals_leave.step_list fr ns' st' e refused in
    rw (same, list) (finished fr budget ns ns' st st' n a (ends.Stopped e) wide r (run_stopped fr (budget - n) ns' st' e (omega arith) g refused))

pub run_goes_on : (fr : Frame) (budget : ℕ) (ns ns' : List ℕ) (st st' : State) (n a : ℕ) (st'' : State) (ns'' : List ℕ) (y : Answer) (fr' : Frame) (applied : ℕ) → fr' ≡ fr → applied ≡ applications_of y → IsRunTo fr budget ns st n a ns' st' → (n ≡ budget → ⊥) → no_goal st' ≡ false → IsOutcome (step fr' ns' st') st'' y ns'' → ((e : StepFault) → y ≡ Refused e → ⊥) → IsRunTo fr budget ns st (n + 1) (a + applied) ns'' st''
run_goes_on fr budget ns ns' st st' n a st'' ns'' y fr' applied k m r h g p not =
    let allowed = r.allowed in
    let o : IsOutcome (step fr ns' st') st'' y ns'' = subst (λ (f : Frame). IsOutcome (step f ns' st') st'' y ns'') k p in
    let one = few_applications y in
    let few = r.few in
    let left : budget - n ≡ suc (budget - (n + 1)) = omega arith in
    let none = ap refusal (sym o.answer) ∙ not_refused y not in
    let next = run_more fr (budget - (n + 1)) ns' st' g none in
    let told = m ∙ ap applications_of o.answer in
    rw (o.state, o.list, told) (record {
      allowed = omega arith;
      few = rw (← told) (omega (arith, one, few, m));
      same = r.same ∙ (ap (further n a) (rw left next) ∙ further_more n a (step fr ns' st').answer (run_on fr (budget - (n + 1)) (step fr ns' st').list (step fr ns' st').state));
    })

pub no_goal_left : (st : State) → length st.goals ≡ 0 → no_goal st ≡ true
no_goal_left st e = grind (arith, nat_tests)

pub goal_left : (st : State) → (length st.goals ≡ 0 → ⊥) → no_goal st ≡ false
goal_left st e = grind (arith, nat_tests)
