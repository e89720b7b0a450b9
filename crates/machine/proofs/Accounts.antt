-- The replies to a job's acts account for its ledger.
use Rattle.std.proofs.Common.{◌≡◌, ℕ, zero, suc, ◌+◌, ltb, List, [], ◌∷◌, ◌++◌, length, Ok, Err, Result, sym, refl, ap, ◌∙◌, append_assoc, arith, length-append}
use Rattle.std.proofs.lemmas.Bool.{cond_both}
use Rattle.facts.specs.declared.fact_types.Fact.{Fact}
use Rattle.facts.specs.System.{System}
use Rattle.rules.specs.Rules.{Rule}
use Rattle.stores.specs.Store.{facts}
use Rattle.machine.specs.declared.answer_types.Answer.{Answer}
use Rattle.machine.specs.declared.answer_types.Answer.TheVariants.{Quiet, Stored, Woken, Dropped, Passed, Applied, Refused}
use Rattle.machine.specs.declared.answer_types.End.TheVariants as ends
use Rattle.machine.specs.declared.answer_types.PostFault.{PostFault}
use Rattle.machine.specs.declared.answer_types.StepFault.TheVariants as fault
use Rattle.machine.specs.Lists.{tally}
use Rattle.machine.specs.Machine.{Frame, State, empty_state, post_answer, after_post, step, Ran, ended, applications_of, after_step, no_goal, refusal, run_on, run}
use Rattle.machine.specs.Ledger.{waiting, ledger, SameFacts, Applies, Act, posting, stepping, running, reading, Reply, to_post, to_step, to_run, to_read, reply, after_act, History, created, acted, Change, brought, used, Leads, unchanged, by_facts, by_rule, AllUsed, Reports, AllReported, reported_by, reported, uses, LedgerIsAccounted}
use Rattle.machine.proofs.Moves.{move, step_case, option_both}
use Rattle.machine.proofs.Steps.{Stepped, stepped, Good, good_bring, ledger-bring, Told}

-- a ledger is read up to the order of its facts -------------------------------------------------------

abbrev applies-same : (s : System) (r : Rule) (l l' l'' : List Fact) → Applies s r l l' → SameFacts l' l'' → Applies s r l l''
applies-same s r l l' l'' a h = record {
  setting = a.setting;
  kept = a.kept;
  gone = a.gone;
  taken = a.taken;
  others = a.others;
  given = a.given;
  parts = a.parts;
  keeps = a.keeps;
  ready = a.ready;
  takes = a.takes;
  leaves = a.leaves;
  gives = a.gives;
  ends = λ p. sym (h p) ∙ a.ends p;
}

pub leads-same : {fr : Frame} {cs : List Change} {k l : List Fact} → Leads fr cs k l → (l' : List Fact) → SameFacts l l' → Leads fr cs k l'
leads-same (unchanged e) l' h = unchanged (λ p. sym (h p) ∙ e p)
leads-same (by_facts fs m e) l' h = by_facts fs m (λ p. sym (h p) ∙ e p)
leads-same {fr} (by_rule {l = k} {m = k'} a r ps ws m e num x told) l' h =
    by_rule a r ps ws m e num (applies-same fr.system r k k' l' x h)
    (record { took = told.took; removed = told.removed; added = told.added; labels = told.labels; apart = told.apart; active = told.active })

-- one after the other
pub leads-on : {fr : Frame} {cs : List Change} {k l : List Fact} → Leads fr cs k l → {ds : List Change} {m : List Fact} → Leads fr ds l m → Leads fr (ds ++ cs) k m
leads-on a {m = m} (unchanged e) = leads-same a m (λ p. sym (e p))
leads-on a (by_facts fs b e) = by_facts fs (leads-on a b) e
leads-on a (by_rule b r ps ws c e num x told) = by_rule b r ps ws (leads-on a c) e num x told

-- changes ---------------------------------------------------------------------------------------------

used-together : (ds cs : List Change) → AllUsed ds → AllUsed cs → AllUsed (ds ++ cs)
used-together [] cs u v = v
used-together (brought fs ∷ ds) cs u v = absurd u
used-together (used a ∷ ds) cs u v = used-together ds cs u v

uses-append : (ds cs : List Change) → uses (ds ++ cs) ≡ uses ds + uses cs
uses-append [] cs = omega arith
uses-append (brought fs ∷ ds) cs = uses-append ds cs
uses-append (used a ∷ ds) cs = omega (arith, uses-append ds cs)

uses-all : (ds : List Change) → AllUsed ds → uses ds ≡ length ds
uses-all [] u = refl
uses-all (brought fs ∷ ds) u = absurd u
uses-all (used a ∷ ds) u = ap suc (uses-all ds u)

-- a reply counts the applications that it reports
pub reports_uses : (a : Act) (y : Reply) (ds : List Change) → Reports a y ds → uses ds ≡ reported_by y
reports_uses (posting fs) (to_post (Ok u)) ds r = ap uses r
reports_uses (posting fs) (to_post (Err e)) ds r = ap uses r
reports_uses (posting fs) (to_step a ms) ds r = absurd r
reports_uses (posting fs) (to_run e n k ms) ds r = absurd r
reports_uses (posting fs) (to_read o n k) ds r = absurd r
reports_uses (stepping ns) (to_post p) ds r = absurd r
reports_uses (stepping ns) (to_step Quiet ms) ds r = ap uses r
reports_uses (stepping ns) (to_step Stored ms) ds r = ap uses r
reports_uses (stepping ns) (to_step Woken ms) ds r = ap uses r
reports_uses (stepping ns) (to_step Dropped ms) ds r = ap uses r
reports_uses (stepping ns) (to_step Passed ms) ds r = ap uses r
reports_uses (stepping ns) (to_step (Applied a) ms) ds r = ap uses r.2
reports_uses (stepping ns) (to_step (Refused e) ms) ds r = ap uses r
reports_uses (stepping ns) (to_run e n k ms) ds r = absurd r
reports_uses (stepping ns) (to_read o n k) ds r = absurd r
reports_uses (running ns budget) (to_post p) ds r = absurd r
reports_uses (running ns budget) (to_step a ms) ds r = absurd r
reports_uses (running ns budget) (to_run e n k ms) ds r = uses-all ds r.1 ∙ r.0
reports_uses (running ns budget) (to_read o n k) ds r = absurd r
reports_uses (reading l) (to_post p) ds r = absurd r
reports_uses (reading l) (to_step a ms) ds r = absurd r
reports_uses (reading l) (to_run e n k ms) ds r = absurd r
reports_uses (reading l) (to_read o n k) ds r = ap uses r

-- acts ------------------------------------------------------------------------------------------------

-- an act made changes, which its reply reports
abbrev pub Grown : Frame → State → Act → State → Reply → Type 0
Grown fr st a st' y = (ds : List Change) × Reports a y ds × Leads fr ds (ledger st) (ledger st') × Good fr st'

-- a run did
abbrev pub GrownBy : Frame → State → Ran → Type 0
GrownBy fr st r = (ds : List Change) × Leads fr ds (ledger st) (ledger r.state) × (length ds ≡ r.applications) × AllUsed ds × Good fr r.state

-- a step's answer, and what it counts
told-changes : {fr : Frame} (st : State) (ns ms : List ℕ) (st' : State) (y : Answer) → Told fr ns st st' y ms →
    (ds : List Change) × Reports (stepping ns) (to_step y ms) ds × Leads fr ds (ledger st) (ledger st') × (length ds ≡ applications_of y) × AllUsed ds
told-changes st ns ms st' Quiet t = ([], refl, unchanged t, refl, tt)
told-changes st ns ms st' Stored t = ([], refl, unchanged t, refl, tt)
told-changes st ns ms st' Woken t = ([], refl, unchanged t, refl, tt)
told-changes st ns ms st' Dropped t = ([], refl, unchanged t, refl, tt)
told-changes st ns ms st' Passed t = ([], refl, unchanged t, refl, tt)
told-changes st ns ms st' (Applied y) t = (
  used (record { answer = y; labels = t.labels }) ∷ [],
  (t.labels, t.list, refl),
  by_rule (record { answer = y; labels = t.labels }) t.rule st.pairs (waiting st.goals) (unchanged (λ p. refl)) (λ p. refl) t.number t.application t.told,
  refl,
  tt,
)
told-changes st ns ms st' (Refused e) t = ([], refl, unchanged t, refl, tt)

-- what a step's answer says, the check of the list with it
pub step-told : {fr : Frame} {st : State} → Good fr st → (ns : List ℕ) → Stepped fr ns st (step fr ns st)
step-told {fr} {st} g ns =
    step_case fr ns st (Stepped fr ns st) (λ z. (g, λ p. refl)) (λ z. stepped fr ns st g (move fr st ns st.goals) refl)

-- a run's steps
ran : (fr : Frame) (n : ℕ) (ns : List ℕ) (st : State) → Good fr st → GrownBy fr st (run_on fr n ns st)
ran fr zero ns st g = ([], unchanged (λ p. refl), refl, tt, g)
ran fr (suc n) ns st g =
    let o = step fr ns st in
    let t = step-told g ns in
    let d = told-changes st ns o.list o.state o.answer t.1 in
    let e = ran fr n o.list o.state t.0 in
    cond_both (no_goal st) (ended ends.Quiet ns st) _ (GrownBy fr st)
    (λ z. ([], unchanged (λ p. refl), refl, tt, g))
    (λ z. option_both (refusal o.answer) (GrownBy fr st) (after_step o.answer (run_on fr n o.list o.state)) (λ k. ended (ends.Stopped k) ns st)
    (λ q. (e.0 ++ d.0, leads-on d.2 e.1, omega (arith, length-append e.0 d.0, e.2, d.3), used-together e.0 d.0 e.3 d.4, e.4))
    (λ k q. ([], unchanged (λ p. refl), refl, tt, g)))

module _ {fr : Frame} {st : State} (g : Good fr st) where
  post_grown : (fs : List Fact) (r : Result (Unit {0}) PostFault) → Grown fr st (posting fs) (after_post fr fs st r) (to_post r)
  post_grown fs (Ok u) = (
    brought fs ∷ [],
    refl,
    by_facts fs (unchanged (λ p. refl)) (λ p. ledger-bring fr.rules fs st g.span p ∙ ap (tally p) (sym (append_assoc (facts st.pairs) (waiting st.goals) fs))),
    good_bring fr st g fs,
  )
  post_grown fs (Err e) = ([], refl, unchanged (λ p. refl), g)

  run_grown : (ns : List ℕ) (budget : ℕ) → GrownBy fr st (run fr ns budget st)
  run_grown ns budget =
      cond_both (ltb (length ns) fr.capacity) (ended (ends.Stopped fault.List) ns st) (run_on fr budget ns st) (GrownBy fr st)
      (λ z. ([], unchanged (λ p. refl), refl, tt, g))
      (λ z. ran fr budget ns st g)

  pub act_grown : (a : Act) → Grown fr st a (after_act fr a st) (reply fr a st)
  act_grown (posting fs) = post_grown fs (post_answer fr fs st)
  act_grown (stepping ns) =
      let o = step fr ns st in
      let t = step-told g ns in
      let d = told-changes st ns o.list o.state o.answer t.1 in (d.0, d.1, d.2, t.0)
  act_grown (running ns budget) = let e = run_grown ns budget in (e.0, (e.2, e.3), e.1, e.4)
  act_grown (reading l) = ([], refl, unchanged (λ p. refl), g)

good_empty : (fr : Frame) → Good fr empty_state
good_empty fr = record { span = omega arith; unwatched = tt }

pub history_good : (fr : Frame) (h : List (Act × Reply)) (st : State) → History fr h st →
    (cs : List Change) × AllReported h cs × Leads fr cs [] (ledger st) × (uses cs ≡ reported h) × Good fr st
history_good fr h st created = ([], AllReported.none, unchanged (λ p. refl), refl, good_empty fr)
history_good fr h st (acted {h = h'} {st = st'} before a) =
    let i = history_good fr h' st' before in
    let d = act_grown i.4 a in (
      d.0 ++ i.0,
      AllReported.more d.0 i.1 d.1,
      leads-on i.2 d.2,
      omega (arith, uses-append d.0 i.0, i.3, reports_uses a (reply fr a st') d.0 d.1),
      d.3,
    )

pub ledger_accounted : LedgerIsAccounted
ledger_accounted fr h st y = let i = history_good fr h st y in (i.0, i.1, i.2, i.3)
