-- The steps of a job as transitions between its states: for each thing that can happen, when it does and what it makes.
use Rattle.std.specs.Prelude.{◌≡◌, ℕ, suc, ◌+◌, ◌<◌, ◌≤◌, Bool, true, false, ◌&&◌, ◌||◌, List, [], ◌∷◌, length, Some, None, Option, ◌==◌, nat_lt}
use Rattle.facts.specs.declared.fact_types.Fact.{Fact}
use Rattle.rules.specs.Closed.{Place, head}
use Rattle.stores.specs.Lists.{has}
use Rattle.stores.specs.Store.{Pair, labels, facts, last_label}
use Rattle.machine.specs.declared.goal_types.Goal.{Goal}
use Rattle.machine.specs.declared.goal_types.Goal.TheVariants.{Wait, Look, Try}
use Rattle.machine.specs.declared.answer_types.Answer.{Answer}
use Rattle.machine.specs.declared.answer_types.Answer.TheVariants.{Quiet, Stored, Woken, Dropped, Passed, Applied, Refused}
use Rattle.machine.specs.declared.answer_types.StepFault.TheVariants as fault
use Rattle.machine.specs.Lists.{IsIn, distinct}
use Rattle.machine.specs.Fitting.{ready}
use Rattle.machine.specs.Machine.{Frame, State, most_goals, Account, stands_at, given_of, left_of, account, with_goals, with_fact, bring, seen, listed, step}
use Rattle.machine.specs.Ledger.{Act, Reply, History}

-- choices ----------------------------------------------------------------------------------------------------------

-- stored facts suit a head: no label twice, the active label at its place, and they make the rule ready
pub record Suits (fr : Frame) (h : Place) (active : ℕ) (ps c : List Pair) : Type 0 where
  pub within : (p : Pair) → IsIn p c → IsIn p ps
  pub stands : stands_at h.place active c ≡ true
  pub apart : distinct (labels c) ≡ true
  pub suits : ready fr.system h.rule (facts c) ≡ true

-- dictionary order
abbrev pub lower : List ℕ → List ℕ → Bool
lower [] ns = false
lower (m ∷ ms) [] = false
lower (m ∷ ms) (n ∷ ns) = nat_lt m n || (m == n && lower ms ns)

-- a choice suits, and none that suits has lower labels
pub record IsLowest (fr : Frame) (h : Place) (active : ℕ) (ps c : List Pair) : Type 0 where
  pub itself : Suits fr h active ps c
  pub least : (d : List Pair) → Suits fr h active ps d → lower (labels d) (labels c) ≡ false

-- what happens ------------------------------------------------------------------------------------------------------

-- a step works on these goals: they are those of the state, and the list is long enough
pub record WorksOn (fr : Frame) (ns : List ℕ) (st : State) (gs : List Goal) : Type 0 where
  pub wide : fr.capacity ≤ length ns
  pub goals : st.goals ≡ gs

-- the top goal tries a stored label at a head that is there
pub record Tries (fr : Frame) (ns : List ℕ) (st : State) : Type 0 where
  pub active : ℕ
  pub number : ℕ
  pub below : List Goal
  pub works : WorksOn fr ns st (Try active number ∷ below)
  pub held : has active (labels st.pairs) ≡ true
  pub place : Place
  pub at : head fr.rules number ≡ Some place

-- no choice suits it
abbrev pub NoneSuits : {fr : Frame} {ns : List ℕ} {st : State} → Tries fr ns st → Type 0
NoneSuits {fr} {ns} {st} t = (c : List Pair) → Suits fr t.place t.active st.pairs c → ⊥

-- a choice is the lowest that suits it
abbrev pub Finds : {fr : Frame} {ns : List ℕ} {st : State} → Tries fr ns st → List Pair → Type 0
Finds {fr} {ns} {st} t c = IsLowest fr t.place t.active st.pairs c

-- what the rule gives for the choice, where every term of its body has a value
abbrev pub gives : {fr : Frame} {ns : List ℕ} {st : State} → Tries fr ns st → List Pair → Option (List Fact)
gives {fr} {ns} {st} t c = given_of fr.system t.place.rule st.pairs c

-- what the application leaves of the state: what it drops is gone, and so is the goal if its label is
abbrev pub leaves : {fr : Frame} {ns : List ℕ} {st : State} → Tries fr ns st → List Pair → State
leaves {fr} {ns} {st} t c = left_of fr.system t.place t.active t.number t.below st c

-- what is told of the application
abbrev pub tells : {fr : Frame} {ns : List ℕ} {st : State} → Tries fr ns st → List Pair → List Fact → Account
tells {fr} {ns} {st} t c fs = account fr.system t.place t.active st.pairs c fs

-- a rule's facts can be brought to a state: to its goals, to its stored facts, and under labels
abbrev pub GoalsFit : List Fact → State → Type 0
GoalsFit fs st = length st.goals + length fs ≤ most_goals

abbrev pub FactsFit : Frame → List Fact → State → Type 0
FactsFit fr fs st = length st.pairs + length (seen fr.rules fs) ≤ fr.capacity

abbrev pub LabelsFit : Frame → List Fact → State → Type 0
LabelsFit fr fs st = st.next + length (seen fr.rules fs) ≤ suc last_label

-- from the caller's list and a state to an answer, a state and the list as left
pub data Transition (fr : Frame) (ns : List ℕ) (st : State) : Answer → State → List ℕ → Type 0 where
  -- no goal is left
  nothing_is_left : WorksOn fr ns st [] → Transition fr ns st Quiet st ns
  -- a fact that waits is stored under the next label, which is then tried from the first head on
  waiting_is_stored : (f : Fact) (gs : List Goal) → WorksOn fr ns st (Wait f ∷ gs) →
      length st.pairs < fr.capacity → st.next ≤ last_label →
      Transition fr ns st Stored (with_fact f gs st) ns
  -- a stored fact is tried from the first head on
  stored_is_woken : (l : ℕ) (gs : List Goal) → WorksOn fr ns st (Look l ∷ gs) → has l (labels st.pairs) ≡ true →
      Transition fr ns st Woken (with_goals st (Try l 1 ∷ gs)) ns
  -- the goal of a fact that is gone is dropped
  gone_is_not_woken : (l : ℕ) (gs : List Goal) → WorksOn fr ns st (Look l ∷ gs) → has l (labels st.pairs) ≡ false →
      Transition fr ns st Dropped (with_goals st gs) ns
  gone_is_dropped : (l i : ℕ) (gs : List Goal) → WorksOn fr ns st (Try l i ∷ gs) → has l (labels st.pairs) ≡ false →
      Transition fr ns st Dropped (with_goals st gs) ns
  -- a goal behind the last head is dropped
  tried_is_dropped : (l i : ℕ) (gs : List Goal) → WorksOn fr ns st (Try l i ∷ gs) → has l (labels st.pairs) ≡ true →
      head fr.rules i ≡ None → Transition fr ns st Dropped (with_goals st gs) ns
  -- no choice suits, and the next head is to be tried
  none_suits : (t : Tries fr ns st) → NoneSuits t →
      Transition fr ns st Passed (with_goals st (Try t.active (suc t.number) ∷ t.below)) ns
  -- the rule is applied to the lowest choice: what it gives is brought to what it leaves, and its labels stand at the beginning
  -- of the list
  rule_is_applied : (t : Tries fr ns st) (c : List Pair) (fs : List Fact) → Finds t c → gives t c ≡ Some fs →
      GoalsFit fs (leaves t c) → FactsFit fr fs (leaves t c) → LabelsFit fr fs (leaves t c) →
      Transition fr ns st (Applied (tells t c fs).answer) (bring fr.rules fs (leaves t c)) (listed (tells t c fs).labels ns)
  -- the list is too short
  list_is_short : length ns < fr.capacity → Transition fr ns st (Refused fault.List) st ns
  -- a fact that waits finds the store full, or no label left
  store_is_full : (f : Fact) (gs : List Goal) → WorksOn fr ns st (Wait f ∷ gs) → fr.capacity ≤ length st.pairs →
      Transition fr ns st (Refused fault.Facts) st ns
  labels_are_out : (f : Fact) (gs : List Goal) → WorksOn fr ns st (Wait f ∷ gs) → length st.pairs < fr.capacity →
      last_label < st.next → Transition fr ns st (Refused fault.Labels) st ns
  -- a term of the body has no value
  body_lacks_a_value : (t : Tries fr ns st) (c : List Pair) → Finds t c → gives t c ≡ None →
      Transition fr ns st (Refused fault.Body) st ns
  -- there would be too many goals, else too many stored facts, else too few labels
  goals_exceed : (t : Tries fr ns st) (c : List Pair) (fs : List Fact) → Finds t c → gives t c ≡ Some fs →
      (GoalsFit fs (leaves t c) → ⊥) → Transition fr ns st (Refused fault.Goals) st ns
  facts_exceed : (t : Tries fr ns st) (c : List Pair) (fs : List Fact) → Finds t c → gives t c ≡ Some fs →
      GoalsFit fs (leaves t c) → (FactsFit fr fs (leaves t c) → ⊥) → Transition fr ns st (Refused fault.Facts) st ns
  labels_exceed : (t : Tries fr ns st) (c : List Pair) (fs : List Fact) → Finds t c → gives t c ≡ Some fs →
      GoalsFit fs (leaves t c) → FactsFit fr fs (leaves t c) → (LabelsFit fr fs (leaves t c) → ⊥) →
      Transition fr ns st (Refused fault.Labels) st ns

-- every step is a transition
abbrev pub StepsAreTransitions : Type 0
StepsAreTransitions =
    (fr : Frame) (h : List (Act × Reply)) (st : State) → History fr h st → (ns : List ℕ) →
    Transition fr ns st (step fr ns st).answer (step fr ns st).state (step fr ns st).list

-- every transition is the step: from one state and list there is one transition
abbrev pub TransitionsAreSteps : Type 0
TransitionsAreSteps =
    (fr : Frame) (h : List (Act × Reply)) (st st' : State) (ns ns' : List ℕ) (y : Answer) → History fr h st →
    Transition fr ns st y st' ns' → step fr ns st ≡ record { state = st'; answer = y; list = ns' }
