-- What every act on a job upholds, whatever was done before: the promises together.
use Rattle.std.specs.Prelude.{◌≡◌, ℕ, ◌≤◌, List, [], ◌∷◌, length}
use Rattle.rules.specs.Rules.{Rule}
use Rattle.machine.specs.declared.answer_types.Application.{Application}
use Rattle.machine.specs.declared.answer_types.Answer.TheVariants.{Applied}
use Rattle.machine.specs.declared.answer_types.End.TheVariants.{Quiet}
use Rattle.machine.specs.Machine.{Frame, State, listed}
use Rattle.machine.specs.Ledger.{Act, Reply, History, reply, after_act, stepping, running, to_step, to_run, Change, Reports, Leads, AllReported, uses, reported, ledger, Numbered, Applies, TellsOf, SaysQuiet, IsIdle, IsSound, HasRoom, goal_bound}

-- an application: the list as left begins with its labels, and the rule that the answer names was applied to the ledger, as the
-- answer and the labels tell
pub record WasApplied (fr : Frame) (before after : State) (ns ms : List ℕ) (y : Application) : Type 0 where
  pub labels : List ℕ
  pub list : ms ≡ listed labels ns
  pub rule : Rule
  pub number : Numbered fr.rules y.rule rule
  pub application : Applies fr.system rule (ledger before) (ledger after)
  pub told : TellsOf before.pairs (record { answer = y; labels = labels }) application

-- all that was done so far had led to one state; then an act was replied to, and led to the next
pub record Upheld (fr : Frame) (h : List (Act × Reply)) (before : State) (a : Act) (y : Reply) (next : State) : Type 0 where
  -- the history goes on
  pub goes_on : History fr ((a, y) ∷ h) next
  -- the reply reports the changes that led from the ledger before to the ledger after
  pub changes : (cs : List Change) × Reports a y cs × Leads fr cs (ledger before) (ledger next)
  -- all replies together report how the ledger was made
  pub accounts : (cs : List Change) × AllReported ((a, y) ∷ h) cs × Leads fr cs [] (ledger next)
      × (uses cs ≡ reported ((a, y) ∷ h))
  -- a step's application is the one that its answer tells of
  pub applies : (ns ms : List ℕ) (b : Application) → a ≡ stepping ns → y ≡ to_step (Applied b) ms →
      WasApplied fr before next ns ms b
  -- a reply that says quiet leaves no rule ready
  pub quiet : SaysQuiet y → IsIdle fr next
  -- a run where no rule is ready comes to rest within a bound, applies no rule and leaves the list
  pub rests : (ns : List ℕ) (budget : ℕ) → a ≡ running ns budget → IsIdle fr before → HasRoom fr before →
      fr.capacity ≤ length ns → goal_bound fr before ≤ budget → (n : ℕ) × (y ≡ to_run Quiet n 0 ns) × (n ≤ goal_bound fr before)

abbrev pub AllIsUpheld : Type 0
AllIsUpheld =
    (fr : Frame) → IsSound fr → (h : List (Act × Reply)) (a : Act) (st : State) → History fr h st →
    Upheld fr h st a (reply fr a st) (after_act fr a st)
