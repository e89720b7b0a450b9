-- What a job means: its frame, and the machine's state.
use Rattle.std.specs.Prelude.{◌≡◌, ℕ, List, [], ◌∷◌, Ok, Err, Result}
use Rattle.facts.specs.System.{System}
use Rattle.rules.specs.Rules.{Rule}
use Rattle.rules.specs.Sets.{closed_rules}
use Rattle.stores.specs.Piles.{Pile}
use Rattle.stores.specs.Store.{Pair}
use Rattle.machine.specs.Machine.{Frame, State, Outcome, Ran}
use Rattle.machine.specs.declared.answer_types.Answer.{Answer}
use Rattle.machine.specs.declared.answer_types.End.{End}
use Rattle.machine.specs.declared.goal_types.Goal.{Goal}
use Rattle.engine.specs.declared.fault_types.CreateFault.{CreateFault}
use Rattle.engine.specs.declared.fault_types.CreateFault.TheVariants.{Facts}
use Rattle.engine.specs.declared.job_type.Job.{Job}

-- the frame of a job with these rules on a store that means this pile
abbrev pub frame_on : System → List Rule → Pile → Frame
frame_on system rules pile = record { system = system; rules = rules; capacity = pile.capacity }

-- what never changes, by the word system and what the store means
abbrev pub frame_of : {W S : Type 0} → System → (S → Pile) → Job W S → Frame
frame_of system meaning j = frame_on system (closed_rules j.set) (meaning j.store)

-- the state of a job on a store that means this pile
abbrev pub state_on : Pile → ℕ → List Goal → State
state_on pile next goals = record { pairs = pile.pairs; next = next; goals = goals }

-- what acts change
abbrev pub state_of : {W S : Type 0} → (S → Pile) → Job W S → State
state_of meaning j = state_on (meaning j.store) j.next j.goals

-- whether a job can be created on a store with these pairs
abbrev pub create_answer : List Pair → Result (Unit {0}) CreateFault
create_answer [] = Ok tt
create_answer (p ∷ ps) = Err Facts

abbrev pub create_fault_number : CreateFault → ℕ
create_fault_number Facts = 16

-- a step came to this state, this answer and this list
pub record IsOutcome (o : Outcome) (st : State) (y : Answer) (ns : List ℕ) : Type 0 where
  pub state : st ≡ o.state
  pub answer : y ≡ o.answer
  pub list : ns ≡ o.list

-- a run came to this state, this end, so many steps and applications, and this list
pub record IsRun (r : Ran) (st : State) (e : End) (taken applied : ℕ) (ns : List ℕ) : Type 0 where
  pub state : st ≡ r.state
  pub end : e ≡ r.end
  pub steps : taken ≡ r.steps
  pub applications : applied ≡ r.applications
  pub list : ns ≡ r.list
