-- The machine: its state, and what a post, a step and a run make of it.
use Rattle.std.specs.Prelude.{ℕ, zero, suc, ◌+◌, Bool, cond, not, ◌&&◌, List, [], ◌∷◌, ◌++◌, map, length, drop, Some, None, Ok, Err, filter, Option, Result, ◌==◌, nat_lt, slice_index, slice_index_or, find, flat_map}
use Rattle.facts.specs.System.{System}
use Rattle.facts.specs.declared.fact_types.Fact.{Fact}
use Rattle.rules.specs.Rules.{AllHead, Rule, all}
use Rattle.rules.specs.Writing.{◌>>=◌}
use Rattle.rules.specs.Closed.{heads_of, Place, head, watched}
use Rattle.stores.specs.Lists.{has}
use Rattle.stores.specs.Store.{Pair, label, fact, labels, facts, last_label, last_kind, placed, placed_all, without}
use Rattle.machine.specs.declared.goal_types.Goal.{Goal}
use Rattle.machine.specs.declared.goal_types.Goal.TheVariants.{Wait, Look, Try}
use Rattle.machine.specs.declared.answer_types.Answer.{Answer}
use Rattle.machine.specs.declared.answer_types.Answer.TheVariants.{Quiet, Stored, Woken, Dropped, Passed, Applied, Refused}
use Rattle.machine.specs.declared.answer_types.Application.{Application}
use Rattle.machine.specs.declared.answer_types.End.{End}
use Rattle.machine.specs.declared.answer_types.End.TheVariants as ends
use Rattle.machine.specs.declared.answer_types.PostFault.{PostFault}
use Rattle.machine.specs.declared.answer_types.PostFault.TheVariants.{Kind, Word}
use Rattle.machine.specs.declared.answer_types.Shortage.{Shortage}
use Rattle.machine.specs.declared.answer_types.Shortage.TheVariants.{Goals, Facts, Labels}
use Rattle.machine.specs.declared.answer_types.StepFault.{StepFault}
use Rattle.machine.specs.declared.answer_types.StepFault.TheVariants as fault
use Rattle.machine.specs.Lists.{distinct, choices}
use Rattle.machine.specs.Fitting.{Setting, fits_all_head, setting_of, ready, body}
use Rattle.machine.specs.Faults.{short_post, short_step}

-- what a job is made of and never changes
pub record Frame : Type 0 where
  pub system : System
  pub rules : List Rule
  pub capacity : ℕ

-- what changes: the stored pairs by rising label, the next label, and the goals, the top one first
pub record State : Type 0 where
  pub pairs : List Pair
  pub next : ℕ
  pub goals : List Goal

-- a new job
abbrev pub empty_state : State
empty_state = record { pairs = []; next = 1; goals = [] }

abbrev pub most_goals : ℕ
most_goals = 512

-- choices of stored facts ------------------------------------------------------------------------------------------

-- the active label stands at a place, counted from 0
abbrev pub stands_at : ℕ → ℕ → List Pair → Bool
stands_at place active c = slice_index (labels c) place == active

-- a choice suits: the active label stands at its place, no label stands twice, and the rule is ready
abbrev pub suits : System → Rule → ℕ → ℕ → List Pair → Bool
suits s r place active c = stands_at place active c && (distinct (labels c) && ready s r (facts c))

-- the first choice that suits, by the label at the first place, then at the second, and so on
abbrev pub chosen : System → Rule → ℕ → ℕ → List Pair → Option (List Pair)
chosen s r place active ps = find (suits s r place active) (choices (heads_of r) ps)

-- an application of a rule to a choice -----------------------------------------------------------------------------

-- each all head in turn takes what it fits of what the earlier ones left: what each took, in order
abbrev pub taken_by : System → Setting → List AllHead → List Pair → List (List Pair)
taken_by s σ [] ps = []
taken_by s σ (a ∷ rest) ps =
    filter (λ p. fits_all_head s σ a (fact p)) ps
    ∷ taken_by s σ rest (filter (λ p. not (fits_all_head s σ a (fact p))) ps)

-- of what all heads took, what the `dropall` heads took, and what the `keepall` heads took
abbrev pub gone_alls : {X : Type 0} → List AllHead → List (List X) → List X
gone_alls [] ts = []
gone_alls (a ∷ rest) [] = []
gone_alls (a ∷ rest) (t ∷ ts) = cond a.drops t [] ++ gone_alls rest ts

abbrev pub kept_alls : {X : Type 0} → List AllHead → List (List X) → List X
kept_alls [] ts = []
kept_alls (a ∷ rest) [] = []
kept_alls (a ∷ rest) (t ∷ ts) = cond a.drops [] t ++ kept_alls rest ts

-- what the all heads take of the stored pairs that are not chosen
abbrev pub taken_of : System → Rule → List Pair → List Pair → List (List Pair)
taken_of s r ps c = taken_by s (setting_of r (facts c)) r.alls (without (labels c) ps)

-- what leaves: the pairs of the `drop` heads, and what the `dropall` heads took
abbrev pub gone_of : System → Rule → List Pair → List Pair → List Pair
gone_of s r ps c = drop (length r.keeps) c ++ gone_alls r.alls (taken_of s r ps c)

-- what the rule gives, where every term of its body has a value
abbrev pub given_of : System → Rule → List Pair → List Pair → Option (List Fact)
given_of s r ps c = body s (setting_of r (facts c)) r (map facts (taken_of s r ps c))

-- how many the first and the second all head took; one that is not there took none
abbrev pub two_counts : {X : Type 0} → List (List X) → List ℕ
two_counts ts = length (slice_index_or ts 0 []) ∷ (length (slice_index_or ts 1 []) ∷ [])

-- what is told of an application: its answer, and the labels of the facts that it used
pub record Account : Type 0 where
  pub answer : Application
  pub labels : List ℕ

-- the labels are those of the choice in order, then of what each all head took
abbrev pub account : System → Place → ℕ → List Pair → List Pair → List Fact → Account
account s h active ps c fs =
    record {
      answer = record {
        rule = h.number;
        active = active;
        took = two_counts (taken_of s h.rule ps c);
        removed = length (gone_of s h.rule ps c);
        added = length fs;
      };
      labels = labels c ++ flat_map labels (taken_of s h.rule ps c);
    }

-- what an application leaves of a state before its facts are brought in: the goal on top of `gs`, which tries the active label at
-- head i, goes if the fact of that label does
abbrev pub left_of : System → Place → ℕ → ℕ → List Goal → State → List Pair → State
left_of s h active i gs st c =
    let gone = labels (gone_of s h.rule st.pairs c) in
    record { pairs = without gone st.pairs; next = st.next; goals = cond (has active gone) gs (Try active i ∷ gs) }

-- bringing facts in ------------------------------------------------------------------------------------------------

-- of facts, those that are stored at once, since some all head names their kind, and those that wait
abbrev pub seen : List Rule → List Fact → List Fact
seen rs = filter (watched rs)

abbrev pub unseen : List Rule → List Fact → List Fact
unseen rs = filter (λ f. not (watched rs f))

-- facts under labels that rise by one from n
abbrev pub numbered : ℕ → List Fact → List Pair
numbered n [] = []
numbered n (f ∷ fs) = (n, f) ∷ numbered (suc n) fs

-- to look at each of some stored pairs
abbrev pub looks : List Pair → List Goal
looks = map (λ p. Look (label p))

-- facts that wait become goals on top; those that are stored get the next labels, and become goals below those
abbrev pub bring : List Rule → List Fact → State → State
bring rs fs st =
    let stored = numbered st.next (seen rs fs) in
    record {
      pairs = placed_all stored st.pairs;
      next = st.next + length stored;
      goals = map Wait (unseen rs fs) ++ (looks stored ++ st.goals);
    }

-- what there is too little of to store so many facts more, if anything
abbrev pub store_shortage : Frame → State → ℕ → Option Shortage
store_shortage fr st n =
    cond (nat_lt fr.capacity (length st.pairs + n)) (Some Facts)
    (cond (nat_lt (suc last_label) (st.next + n)) (Some Labels) None)

-- and to bring facts in
abbrev pub shortage : Frame → List Fact → State → Option Shortage
shortage fr fs st =
    cond (nat_lt most_goals (length st.goals + length fs)) (Some Goals)
    (store_shortage fr st (length (seen fr.rules fs)))

-- post -------------------------------------------------------------------------------------------------------------

-- the n-th fact: its kind is judged, then its words
abbrev pub fact_verdict : System → ℕ → Fact → Result (Unit {0}) PostFault
fact_verdict s n f = cond (nat_lt last_kind f.kind) (Err (Kind n)) (cond (all s.valid f.words) (Ok tt) (Err (Word n)))

-- facts, of which the first is the n-th: the first fault counts
abbrev pub facts_verdict : System → ℕ → List Fact → Result (Unit {0}) PostFault
facts_verdict s n [] = Ok tt
facts_verdict s n (f ∷ fs) = fact_verdict s n f >>= λ _. facts_verdict s (suc n) fs

-- a shortage refuses a post
abbrev pub room_verdict : Option Shortage → Result (Unit {0}) PostFault
room_verdict None = Ok tt
room_verdict (Some e) = Err (short_post e)

-- the answer of a post: the facts are judged, and then whether there is room for them
abbrev pub post_answer : Frame → List Fact → State → Result (Unit {0}) PostFault
post_answer fr fs st = facts_verdict fr.system 1 fs >>= λ _. room_verdict (shortage fr fs st)

-- what a post that is answered so leaves
abbrev pub after_post : Frame → List Fact → State → Result (Unit {0}) PostFault → State
after_post fr fs st (Ok u) = bring fr.rules fs st
after_post fr fs st (Err e) = st

-- step -------------------------------------------------------------------------------------------------------------

-- In these definitions l is the label of a goal, i the number of its head, gs the goals below it, and ns the caller's list.

-- what a step comes to: the state after it, its answer, and the caller's list as left
pub record Outcome : Type 0 where
  pub state : State
  pub answer : Answer
  pub list : List ℕ

-- an answer that leaves the list as found
abbrev pub answered : Answer → State → List ℕ → Outcome
answered y st ns = record { state = st; answer = y; list = ns }

-- a list with labels written over its beginning
abbrev pub listed : List ℕ → List ℕ → List ℕ
listed ls ns = ls ++ drop (length ls) ns

-- the same store with other goals
abbrev pub with_goals : State → List Goal → State
with_goals st gs = record { pairs = st.pairs; next = st.next; goals = gs }

-- the same store with one fact more, under the next label, which is tried from the first head on
abbrev pub with_fact : Fact → List Goal → State → State
with_fact f gs st = record { pairs = placed st.next f st.pairs; next = suc st.next; goals = Try st.next 1 ∷ gs }

-- a fact that waits is stored, unless there is a shortage
abbrev pub wait_room : Fact → List Goal → State → List ℕ → Option Shortage → Outcome
wait_room f gs st ns None = answered Stored (with_fact f gs st) ns
wait_room f gs st ns (Some e) = answered (Refused (short_step e)) st ns

abbrev pub wait_step : Frame → Fact → List Goal → State → List ℕ → Outcome
wait_step fr f gs st ns = wait_room f gs st ns (store_shortage fr st 1)

-- a stored fact is tried from the first head on; the goal of one that is gone is dropped
abbrev pub look_step : ℕ → List Goal → State → List ℕ → Outcome
look_step l gs st ns =
    cond (has l (labels st.pairs))
    (answered Woken (with_goals st (Try l 1 ∷ gs)) ns)
    (answered Dropped (with_goals st gs) ns)

-- an application brings its facts to what it leaves, unless there is a shortage, and lists its labels
abbrev pub apply_room : Frame → State → List ℕ → State → Account → List Fact → Option Shortage → Outcome
apply_room fr st ns left a fs None =
    record { state = bring fr.rules fs left; answer = Applied a.answer; list = listed a.labels ns }
apply_room fr st ns left a fs (Some e) = answered (Refused (short_step e)) st ns

-- it is refused where a term of the body has no value
abbrev pub apply_body : Frame → Place → ℕ → ℕ → List Goal → State → List ℕ → List Pair → Option (List Fact) → Outcome
apply_body fr h l i gs st ns c None = answered (Refused fault.Body) st ns
apply_body fr h l i gs st ns c (Some fs) =
    let left = left_of fr.system h l i gs st c in
    apply_room fr st ns left (account fr.system h l st.pairs c fs) fs (shortage fr fs left)

-- the rule is applied to the choice, or the label is tried at the next head
abbrev pub try_choice : Frame → Place → ℕ → ℕ → List Goal → State → List ℕ → Option (List Pair) → Outcome
try_choice fr h l i gs st ns None = answered Passed (with_goals st (Try l (suc i) ∷ gs)) ns
try_choice fr h l i gs st ns (Some c) = apply_body fr h l i gs st ns c (given_of fr.system h.rule st.pairs c)

-- a goal behind the last head is dropped
abbrev pub try_head : Frame → ℕ → ℕ → List Goal → State → List ℕ → Option Place → Outcome
try_head fr l i gs st ns None = answered Dropped (with_goals st gs) ns
try_head fr l i gs st ns (Some h) = try_choice fr h l i gs st ns (chosen fr.system h.rule h.place l st.pairs)

-- a stored fact is tried at head i; the goal of one that is gone is dropped
abbrev pub try_step : Frame → ℕ → ℕ → List Goal → State → List ℕ → Outcome
try_step fr l i gs st ns =
    cond (has l (labels st.pairs))
    (try_head fr l i gs st ns (head fr.rules i))
    (answered Dropped (with_goals st gs) ns)

-- a step on these goals
abbrev pub goal_step : Frame → State → List ℕ → List Goal → Outcome
goal_step fr st ns [] = answered Quiet st ns
goal_step fr st ns (Wait f ∷ gs) = wait_step fr f gs st ns
goal_step fr st ns (Look l ∷ gs) = look_step l gs st ns
goal_step fr st ns (Try l i ∷ gs) = try_step fr l i gs st ns

-- a step with the caller's list; a list that is shorter than the capacity is refused before anything else
abbrev pub step : Frame → List ℕ → State → Outcome
step fr ns st =
    cond (nat_lt (length ns) fr.capacity) (answered (Refused fault.List) st ns) (goal_step fr st ns st.goals)

-- run --------------------------------------------------------------------------------------------------------------

-- what a run comes to: the state after it, why it ended, how many steps it took, how many of them applied a rule, and the
-- caller's list as left
pub record Ran : Type 0 where
  pub state : State
  pub end : End
  pub steps : ℕ
  pub applications : ℕ
  pub list : List ℕ

-- a run that ends before its first step
abbrev pub ended : End → List ℕ → State → Ran
ended e ns st = record { state = st; end = e; steps = 0; applications = 0; list = ns }

-- how many applications an answer tells of
abbrev pub applications_of : Answer → ℕ
applications_of (Applied a) = 1
applications_of y = 0

-- one step, and then a run
abbrev pub after_step : Answer → Ran → Ran
after_step y r =
    record {
      state = r.state;
      end = r.end;
      steps = suc r.steps;
      applications = applications_of y + r.applications;
      list = r.list;
    }

abbrev pub no_goal : State → Bool
no_goal st = length st.goals == 0

abbrev pub refusal : Answer → Option StepFault
refusal (Refused e) = Some e
refusal y = None

-- steps are taken until no goal is left, as many as are allowed are taken, or one is refused
abbrev pub run_on : Frame → ℕ → List ℕ → State → Ran
run_on fr zero ns st = ended (cond (no_goal st) ends.Quiet ends.Spent) ns st
run_on fr (suc n) ns st =
    let o = step fr ns st in
    cond (no_goal st) (ended ends.Quiet ns st)
    (elim (refusal o.answer) [
      | None ↦ after_step o.answer (run_on fr n o.list o.state)
      | Some e ↦ ended (ends.Stopped e) ns st
    ])

-- a run with the caller's list and the number of steps that are allowed
abbrev pub run : Frame → List ℕ → ℕ → State → Ran
run fr ns budget st =
    cond (nat_lt (length ns) fr.capacity) (ended (ends.Stopped fault.List) ns st) (run_on fr budget ns st)
