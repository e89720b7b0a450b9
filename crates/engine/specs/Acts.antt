-- A list of acts on a new job: what is replied, where it leads, and what holds then.
use Rattle.std.specs.Prelude.{◌≡◌, ℕ, ◌≤◌, List, [], ◌∷◌, map, reverse, length}
use Rattle.facts.specs.declared.fact_types.Fact.{Fact}
use Rattle.machine.specs.Lists.{IsIn}
use Rattle.machine.specs.Machine.{Frame, State, empty_state, step, run}
use Rattle.machine.specs.Ledger.{Act, posting, stepping, running, reading, Reply, to_post, to_step, to_run, to_read, reply, after_act, History, created, acted, Change, AllReported, Leads, uses, reported, ledger, SaysQuiet, IsIdle, HasRoom, goal_bound, HasRested, HasValidConstants, PostsHaveThreeWords, IsValid}
use Rattle.machine.specs.Upheld.{Upheld}
use Rattle.engine.specs.declared.act_types.Act.{Act as CodeAct}
use Rattle.engine.specs.declared.act_types.Act.TheVariants.{Post, Step, Run, Read}
use Rattle.engine.specs.declared.act_types.Reply.{Reply as CodeReply}
use Rattle.engine.specs.declared.act_types.Reply.TheVariants as told

-- an act with the caller's list as it is then
abbrev pub act_with : List ℕ → CodeAct → Act
act_with ns (Post fs) = posting fs.now
act_with ns Step = stepping ns
act_with ns (Run budget) = running ns budget
act_with ns (Read l) = reading l

-- the caller's list after an act
abbrev pub list_after : Frame → Act → State → List ℕ → List ℕ
list_after fr (posting fs) st ns = ns
list_after fr (stepping ms) st ns = (step fr ms st).list
list_after fr (running ms budget) st ns = (run fr ms budget st).list
list_after fr (reading l) st ns = ns

-- a reply, but for the caller's list
abbrev pub told_of : Reply → CodeReply
told_of (to_post r) = told.Posted r
told_of (to_step y ns) = told.Stepped y
told_of (to_run e n k ns) = told.Ran e n k
told_of (to_read o n k) = told.Read o n k

-- what was done so far, the latest first, and the state and the caller's list to which it led
pub record Done : Type 0 where
  pub history : List (Act × Reply)
  pub state : State
  pub list : List ℕ

-- a new job
abbrev pub begun_with : List ℕ → Done
begun_with ns = record { history = []; state = empty_state; list = ns }

-- one act more
abbrev pub with_act : Frame → CodeAct → Done → Done
with_act fr a d =
    let b = act_with d.list a in
    record {
      history = (b, reply fr b d.state) ∷ d.history;
      state = after_act fr b d.state;
      list = list_after fr b d.state d.list;
    }

-- acts in order
abbrev pub with_acts : Frame → List CodeAct → Done → Done
with_acts fr [] d = d
with_acts fr (a ∷ rest) d = with_acts fr rest (with_act fr a d)

-- the replies in order
abbrev pub replies_of : Done → List CodeReply
replies_of d = map (λ e. told_of e.1) (reverse d.history)

-- what holds of everything that was done with a job --------------------------------------------------------------------

-- every act on the way upheld the promises
abbrev pub EachUpheld : (fr : Frame) {h : List (Act × Reply)} {st : State} → History fr h st → Type 0
EachUpheld fr created = Unit {0}
EachUpheld fr (acted {h = h} {st = st} before a) = EachUpheld fr before × Upheld fr h st a (reply fr a st) (after_act fr a st)

-- after these acts, the latest first, that led to a state: they are a history of which every act upheld the promises; the ledger is
-- what their replies report; where the last reply says quiet no rule is ready; where no rule is ready and there is room, a run with
-- enough steps comes to rest; and every fact of the ledger is valid
pub record Kept (fr : Frame) (h : List (Act × Reply)) (st : State) : Type 0 where
  pub history : History fr h st
  pub each : EachUpheld fr history
  pub accounts : (cs : List Change) × AllReported h cs × Leads fr cs [] (ledger st) × (uses cs ≡ reported h)
  pub quiet : (a : Act) (y : Reply) (earlier : List (Act × Reply)) → h ≡ (a, y) ∷ earlier → SaysQuiet y → IsIdle fr st
  pub rests : IsIdle fr st → HasRoom fr st → (ns : List ℕ) (budget : ℕ) → fr.capacity ≤ length ns → goal_bound fr st ≤ budget →
      HasRested ns (goal_bound fr st) (run fr ns budget st)
  pub valid : HasValidConstants fr → PostsHaveThreeWords h → (f : Fact) → IsIn f (ledger st) → IsValid fr.system f
