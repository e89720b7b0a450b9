-- What holds of every job, whatever was done with it: its ledger is what posts and applications made of it, `quiet` means that no
-- rule is ready, a job with no rule ready comes to rest within a bound, and every fact of a ledger is valid.
use Rattle.std.specs.Prelude.{◌≡◌, ℕ, suc, ◌+◌, ◌*◌, ◌≤◌, Bool, true, false, ◌&&◌, List, [], ◌∷◌, ◌++◌, map, length, take, Some, Ok, Err, Option, Result, ◌==◌}
use Rattle.facts.specs.System.{System, Lawful}
use Rattle.facts.specs.declared.fact_types.Fact.{Fact}
use Rattle.rules.specs.Rules.{AllHead, Rule, all}
use Rattle.rules.specs.Closed.{heads_of, head_count, stand, every_word}
use Rattle.stores.specs.Lists.{has}
use Rattle.stores.specs.Store.{Pair, facts, read, last_label, last_kind}
use Rattle.machine.specs.declared.goal_types.Goal.{Goal}
use Rattle.machine.specs.declared.goal_types.Goal.TheVariants.{Wait, Look, Try}
use Rattle.machine.specs.declared.answer_types.Answer.{Answer}
use Rattle.machine.specs.declared.answer_types.Answer.TheVariants.{Quiet, Applied}
use Rattle.machine.specs.declared.answer_types.End.{End}
use Rattle.machine.specs.declared.answer_types.End.TheVariants as ends
use Rattle.machine.specs.declared.answer_types.PostFault.{PostFault}
use Rattle.machine.specs.Lists.{IsIn, tally, distinct, together}
use Rattle.machine.specs.Fitting.{Setting, fits_all_head, ready_under, body}
use Rattle.machine.specs.Machine.{Frame, State, empty_state, Account, gone_alls, kept_alls, two_counts, post_answer, after_post, step, listed, Ran, run, applications_of}

-- the ledger -------------------------------------------------------------------------------------------------------

-- the facts that wait
abbrev pub waiting : List Goal → List Fact
waiting [] = []
waiting (Wait f ∷ gs) = f ∷ waiting gs
waiting (Look l ∷ gs) = waiting gs
waiting (Try l i ∷ gs) = waiting gs

-- the stored facts and those that wait, together
abbrev pub ledger : State → List Fact
ledger st = facts st.pairs ++ waiting st.goals

-- the same facts, each as often, in any order: every test counts as many in both
abbrev pub SameFacts : List Fact → List Fact → Type 0
SameFacts xs ys = (p : Fact → Bool) → tally p xs ≡ tally p ys

-- rules on a ledger ------------------------------------------------------------------------------------------------

-- a rule is ready: facts of the ledger, one for each single head, fit under one setting, and its conditions hold
pub record IsReady (s : System) (r : Rule) (l : List Fact) : Type 0 where
  pub chosen : List Fact
  pub others : List Fact
  pub parts : SameFacts l (chosen ++ others)
  pub setting : Setting
  pub suits : ready_under s r setting chosen ≡ true

-- no rule is ready
abbrev pub IsIdle : Frame → State → Type 0
IsIdle fr st = (r : Rule) → IsIn r fr.rules → IsReady fr.system r (ledger st) → ⊥

-- each all head fits every fact that it took
abbrev pub Takes : System → Setting → List AllHead → List (List Fact) → Type 0
Takes s σ [] [] = Unit {0}
Takes s σ [] (t ∷ ts) = ⊥
Takes s σ (a ∷ rest) [] = ⊥
Takes s σ (a ∷ rest) (t ∷ ts) = ((f : Fact) → IsIn f t → fits_all_head s σ a f ≡ true) × Takes s σ rest ts

-- one application of a rule leads from a ledger to another
pub record Applies (s : System) (r : Rule) (before after : List Fact) : Type 0 where
  -- the ledger before is the facts of the `keep` heads, those of the `drop` heads, what each all head took, and the others
  pub setting : Setting
  pub kept : List Fact
  pub gone : List Fact
  pub taken : List (List Fact)
  pub others : List Fact
  pub parts : SameFacts before (kept ++ (gone ++ (together taken ++ others)))
  -- the facts of the single heads make the rule ready
  pub keeps : length kept ≡ length r.keeps
  pub ready : ready_under s r setting (kept ++ gone) ≡ true
  -- the all heads fit what they took, and none of the others
  pub takes : Takes s setting r.alls taken
  pub leaves : (a : AllHead) → IsIn a r.alls → (f : Fact) → IsIn f others → fits_all_head s setting a f ≡ false
  -- the ledger after is what stayed, and what the body gives
  pub given : List Fact
  pub gives : body s setting r taken ≡ Some given
  pub ends : SameFacts after (kept ++ (kept_alls r.alls taken ++ (others ++ given)))

-- an account tells of an application, by the pairs that were stored before it
pub record TellsOf {s : System} {r : Rule} {before after : List Fact} (ps : List Pair) (a : Account) (x : Applies s r before after)
    : Type 0 where
  -- how many facts two all heads took, how many left, and how many were given
  pub took : a.answer.took ≡ two_counts x.taken
  pub removed : a.answer.removed ≡ length (x.gone ++ gone_alls r.alls x.taken)
  pub added : a.answer.added ≡ length x.given
  -- its labels are those of the facts of the single heads, and then of what the all heads took
  pub labels : map (λ n. read n ps) a.labels ≡ map Some (x.kept ++ (x.gone ++ together x.taken))
  -- no label twice
  pub apart : distinct a.labels ≡ true
  -- the active label is that of a single head
  pub active : has a.answer.active (take (heads_of r) a.labels) ≡ true

-- acts -------------------------------------------------------------------------------------------------------------

-- what is done with a job: a post of facts, a step with the caller's list, a run with the list and a number of steps that are
-- allowed, or a reading of what is stored under a label
pub data Act : Type 0 where
  posting : List Fact → Act
  stepping : List ℕ → Act
  running : List ℕ → ℕ → Act
  reading : ℕ → Act

-- what is replied: to a step and to a run also with the list as left, to a reading also with how many facts are stored and how
-- many goals there are
pub data Reply : Type 0 where
  to_post : Result (Unit {0}) PostFault → Reply
  to_step : Answer → List ℕ → Reply
  to_run : End → ℕ → ℕ → List ℕ → Reply
  to_read : Option Fact → ℕ → ℕ → Reply

abbrev pub reply : Frame → Act → State → Reply
reply fr (posting fs) st = to_post (post_answer fr fs st)
reply fr (stepping ns) st = let o = step fr ns st in to_step o.answer o.list
reply fr (running ns budget) st = let o = run fr ns budget st in to_run o.end o.steps o.applications o.list
reply fr (reading l) st = to_read (read l st.pairs) (length st.pairs) (length st.goals)

-- the state that an act leaves
abbrev pub after_act : Frame → Act → State → State
after_act fr (posting fs) st = after_post fr fs st (post_answer fr fs st)
after_act fr (stepping ns) st = (step fr ns st).state
after_act fr (running ns budget) st = (run fr ns budget st).state
after_act fr (reading l) st = st

-- all that was done with a job since it was new, the latest first, each act with its reply, and the state that it led to
pub data History (fr : Frame) : List (Act × Reply) → State → Type 0 where
  created : History fr [] empty_state
  acted : {h : List (Act × Reply)} {st : State} → History fr h st → (a : Act) →
      History fr ((a, reply fr a st) ∷ h) (after_act fr a st)

-- changes ----------------------------------------------------------------------------------------------------------

-- what changes a ledger: facts that are brought to it, and applications
pub data Change : Type 0 where
  brought : List Fact → Change
  used : Account → Change

-- the rule of a number, from 1
abbrev pub Numbered : List Rule → ℕ → Rule → Type 0
Numbered rs n r = (before : List Rule) × (behind : List Rule) × (rs ≡ before ++ (r ∷ behind)) × (n ≡ suc (length before))

-- changes, the latest first, lead from one ledger to another
pub data Leads (fr : Frame) : List Change → List Fact → List Fact → Type 0 where
  -- none: the ledgers have the same facts
  unchanged : {k l : List Fact} → SameFacts l k → Leads fr [] k l
  -- the facts that were brought are there more
  by_facts : {cs : List Change} {k l m : List Fact} (fs : List Fact) → Leads fr cs k l → SameFacts m (l ++ fs) →
      Leads fr (brought fs ∷ cs) k m
  -- the rule that the account names was applied, as it tells of the facts that were stored
  by_rule : {cs : List Change} {k l m : List Fact} (a : Account) (r : Rule) (ps : List Pair) (ws : List Fact) →
      Leads fr cs k l → SameFacts l (facts ps ++ ws) → Numbered fr.rules a.answer.rule r → (x : Applies fr.system r l m) → TellsOf ps a x →
      Leads fr (used a ∷ cs) k m

-- the changes are applications
abbrev pub AllUsed : List Change → Type 0
AllUsed [] = Unit {0}
AllUsed (brought fs ∷ cs) = ⊥
AllUsed (used a ∷ cs) = AllUsed cs

-- the changes that the reply to an act reports: the facts of a post that is accepted; the application of a step, with the labels
-- with which the list as left begins; as many applications as a run counts; and else none. An act has no other sort of reply
abbrev pub Reports : Act → Reply → List Change → Type 0
Reports (posting fs) (to_post (Ok u)) cs = cs ≡ brought fs ∷ []
Reports (posting fs) (to_post (Err e)) cs = cs ≡ []
Reports (stepping ns) (to_step (Applied y) ms) cs =
    (ls : List ℕ) × (ms ≡ listed ls ns) × (cs ≡ used (record { answer = y; labels = ls }) ∷ [])
Reports (stepping ns) (to_step y ms) cs = cs ≡ []
Reports (running ns budget) (to_run e n k ms) cs = (length cs ≡ k) × AllUsed cs
Reports (reading l) (to_read o n k) cs = cs ≡ []
Reports a y cs = ⊥

-- the changes that the replies to all acts report, in their order
pub data AllReported : List (Act × Reply) → List Change → Type 0 where
  none : AllReported [] []
  more : {h : List (Act × Reply)} {cs : List Change} {a : Act} {y : Reply} (ds : List Change) → AllReported h cs →
      Reports a y ds → AllReported ((a, y) ∷ h) (ds ++ cs)

-- how many applications a reply counts, and how many all of them do
abbrev pub reported_by : Reply → ℕ
reported_by (to_post r) = 0
reported_by (to_step y ms) = applications_of y
reported_by (to_run e n k ms) = k
reported_by (to_read o n k) = 0

abbrev pub reported : List (Act × Reply) → ℕ
reported [] = 0
reported (e ∷ h) = reported_by e.1 + reported h

-- how many of the changes are applications
abbrev pub uses : List Change → ℕ
uses [] = 0
uses (brought fs ∷ cs) = uses cs
uses (used a ∷ cs) = suc (uses cs)

-- the ledger is what the changes that the replies report made of an empty one
abbrev pub LedgerIsAccounted : Type 0
LedgerIsAccounted =
    (fr : Frame) (h : List (Act × Reply)) (st : State) → History fr h st →
    (cs : List Change) × AllReported h cs × Leads fr cs [] (ledger st) × (uses cs ≡ reported h)

-- quiet ------------------------------------------------------------------------------------------------------------

-- a reply that says that no rule has work left
abbrev pub SaysQuiet : Reply → Type 0
SaysQuiet (to_step y ms) = y ≡ Quiet
SaysQuiet (to_run e n k ms) = e ≡ ends.Quiet
SaysQuiet y = ⊥

-- the rules stand, as those of every closed set do: so each has a `drop` head, and every letter of its conditions stands in a
-- single head
pub record IsSound (fr : Frame) : Type 0 where
  pub stands : stand every_word fr.rules ≡ true

-- after a reply that says quiet no rule is ready
abbrev pub QuietIsVouched : Type 0
QuietIsVouched =
    (fr : Frame) → IsSound fr → (h : List (Act × Reply)) (a : Act) (y : Reply) (st : State) →
    History fr ((a, y) ∷ h) st → SaysQuiet y → IsIdle fr st

-- rest -------------------------------------------------------------------------------------------------------------

-- how many steps the goals take at most where no rule is ready
abbrev pub goal_bound : Frame → State → ℕ
goal_bound fr st = length st.goals * (head_count fr.rules + 2)

-- the capacity has room for the ledger, and there are labels for the facts that wait
pub record HasRoom (fr : Frame) (st : State) : Type 0 where
  pub facts : length (ledger st) ≤ fr.capacity
  pub labels : st.next + length (waiting st.goals) ≤ suc last_label

-- a run came to rest in so many steps at most, applied no rule and left the list
pub record HasRested (ns : List ℕ) (most : ℕ) (r : Ran) : Type 0 where
  pub end : r.end ≡ ends.Quiet
  pub applications : r.applications ≡ 0
  pub steps : r.steps ≤ most
  pub list : r.list ≡ ns

-- where no rule is ready and there is room, a run with enough steps comes to rest
abbrev pub IdleComesToRest : Type 0
IdleComesToRest =
    (fr : Frame) (h : List (Act × Reply)) (st : State) → History fr h st → IsIdle fr st → HasRoom fr st →
    (ns : List ℕ) (budget : ℕ) → fr.capacity ≤ length ns → goal_bound fr st ≤ budget →
    HasRested ns (goal_bound fr st) (run fr ns budget st)

-- valid facts ------------------------------------------------------------------------------------------------------

-- a kind from 0 to 63, and three valid words
pub record IsValid (s : System) (f : Fact) : Type 0 where
  pub kind : f.kind ≤ last_kind
  pub words : all s.valid f.words ≡ true
  pub three : length f.words ≡ 3

-- every fact that a post has in a history has three words, as every fact of the code has
abbrev pub PostsHaveThreeWords : List (Act × Reply) → Type 0
PostsHaveThreeWords h =
    (fs : List Fact) (y : Reply) → IsIn (posting fs, y) h → (f : Fact) → IsIn f fs → length f.words ≡ 3

-- every fact of a body has three terms, as every one of the code has
abbrev pub has_three_terms : Rule → Bool
has_three_terms r = all (λ t. length t.terms == 3) r.gives && all (λ g. length g.each.terms == 3) r.givealls

-- the rules stand, with constants that are valid in the word system, and the word system keeps its laws
pub record HasValidConstants (fr : Frame) : Type 0 where
  pub lawful : Lawful fr.system
  pub stands : stand fr.system.valid fr.rules ≡ true
  pub three : all has_three_terms fr.rules ≡ true

-- every fact of a ledger is valid
abbrev pub LedgerFactsAreValid : Type 0
LedgerFactsAreValid =
    (fr : Frame) → HasValidConstants fr → (h : List (Act × Reply)) (st : State) → History fr h st →
    PostsHaveThreeWords h → (f : Fact) → IsIn f (ledger st) → IsValid fr.system f
