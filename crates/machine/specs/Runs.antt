-- What a run is, said by its steps, how many steps there can be, and what a refusal leaves.
use Rattle.std.specs.Prelude.{◌≡◌, ℕ, ◌+◌, ◌*◌, ◌<◌, ◌≤◌, ◌⊎◌, List, [], ◌∷◌, length, None, Err, ◌≢◌}
use Rattle.facts.specs.declared.fact_types.Fact.{Fact}
use Rattle.rules.specs.Closed.{head_count}
use Rattle.machine.specs.declared.answer_types.Answer.{Answer}
use Rattle.machine.specs.declared.answer_types.Answer.TheVariants.{Applied, Refused}
use Rattle.machine.specs.declared.answer_types.End.{End}
use Rattle.machine.specs.declared.answer_types.End.TheVariants.{Quiet, Spent, Stopped}
use Rattle.machine.specs.declared.answer_types.PostFault.{PostFault}
use Rattle.machine.specs.declared.answer_types.StepFault.{StepFault}
use Rattle.machine.specs.declared.answer_types.StepFault.TheVariants as fault
use Rattle.machine.specs.Machine.{Frame, State, post_answer, after_post, refusal, applications_of, step, Ran, run}

-- steps one after the other, none refused and each with a goal left: the answers, and the state and the list to which they led
pub data Walk (fr : Frame) : List ℕ → State → List Answer → State → List ℕ → Type 0 where
  still : {ns : List ℕ} {st : State} → Walk fr ns st [] st ns
  on : {ns ns' : List ℕ} {st st' : State} {ys : List Answer} → (st.goals ≢ []) → refusal (step fr ns st).answer ≡ None →
      Walk fr (step fr ns st).list (step fr ns st).state ys st' ns' → Walk fr ns st ((step fr ns st).answer ∷ ys) st' ns'

-- how many of the answers tell of an application
abbrev pub applications_in : List Answer → ℕ
applications_in [] = 0
applications_in (y ∷ ys) = applications_of y + applications_in ys

-- how many facts the applications gave
abbrev pub added_by : Answer → ℕ
added_by (Applied a) = a.added
added_by y = 0

abbrev pub added_in : List Answer → ℕ
added_in [] = 0
added_in (y ∷ ys) = added_by y + added_in ys

-- with K heads, each goal and each fact given takes at most K + 2 steps, and each application one more
abbrev pub WalksAreBounded : Type 0
WalksAreBounded =
    (fr : Frame) (ns ns' : List ℕ) (st st' : State) (ys : List Answer) → Walk fr ns st ys st' ns' →
    length ys ≤ (length st.goals + added_in ys) * (head_count fr.rules + 2) + applications_in ys

-- why a run of so many steps at most ended: no goal is left; a goal is left and all steps are taken; or the next step is refused,
-- where the list is too short for any step, or a goal and a step are left
abbrev pub EndsFor : Frame → ℕ → Ran → End → Type 0
EndsFor fr budget r Quiet = r.state.goals ≡ []
EndsFor fr budget r Spent = (r.state.goals ≢ []) × (r.steps ≡ budget)
EndsFor fr budget r (Stopped e) =
    ((step fr r.list r.state).answer ≡ Refused e) × ((e ≡ fault.List) ⊎ ((r.state.goals ≢ []) × (r.steps < budget)))

-- a run is a walk of as many steps as it counts, at most as many as are allowed, with as many applications as it counts, and it
-- ends for the reason that it gives
pub record IsWalk (fr : Frame) (ns : List ℕ) (budget : ℕ) (st : State) (r : Ran) : Type 0 where
  pub answers : List Answer
  pub walk : Walk fr ns st answers r.state r.list
  pub steps : r.steps ≡ length answers
  pub allowed : r.steps ≤ budget
  pub applications : r.applications ≡ applications_in answers
  pub reason : EndsFor fr budget r r.end

abbrev pub RunsAreWalks : Type 0
RunsAreWalks = (fr : Frame) (ns : List ℕ) (budget : ℕ) (st : State) → IsWalk fr ns budget st (run fr ns budget st)

-- a step that is refused leaves the state and the list as found, and a post that is refused the state
pub record RefusalsLeave : Type 0 where
  pub step_state : (fr : Frame) (ns : List ℕ) (st : State) (e : StepFault) → (step fr ns st).answer ≡ Refused e →
      (step fr ns st).state ≡ st
  pub step_list : (fr : Frame) (ns : List ℕ) (st : State) (e : StepFault) → (step fr ns st).answer ≡ Refused e →
      (step fr ns st).list ≡ ns
  pub post_state : (fr : Frame) (fs : List Fact) (st : State) (e : PostFault) → post_answer fr fs st ≡ Err e →
      after_post fr fs st (post_answer fr fs st) ≡ st
