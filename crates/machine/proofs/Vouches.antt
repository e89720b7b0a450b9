-- `quiet` means that no rule is ready.
use Rattle.std.proofs.Common.{◌≡◌, ℕ, zero, suc, ◌+◌, ◌<◌, ◌≤◌, true, ltb, List, [], ◌∷◌, ◌++◌, length, Ok, Err, Result, sym, refl, ap, subst, arith, length-append}
use mathlib.Core.List.Memᴰ
use mathlib.Core.List.{Memᴰ}
use Rattle.std.proofs.lemmas.Bool.{cond_both, eqb-true}
use Rattle.facts.specs.declared.fact_types.Fact.{Fact}
use Rattle.rules.specs.Rules.{Rule}
use Rattle.rules.specs.Closed.{heads_of, every_word}
use Rattle.stores.specs.Store.{Pair, facts}
use Rattle.machine.specs.declared.goal_types.Goal.{Goal}
use Rattle.machine.specs.declared.answer_types.Answer.TheVariants.{Quiet}
use Rattle.machine.specs.declared.answer_types.End.TheVariants as ends
use Rattle.machine.specs.declared.answer_types.PostFault.{PostFault}
use Rattle.machine.specs.declared.answer_types.StepFault.{StepFault}
use Rattle.machine.specs.declared.answer_types.StepFault.TheVariants as fault
use Rattle.machine.specs.Lists.{tally}
use Rattle.machine.specs.Fitting.{ready}
use Rattle.machine.specs.Machine.{Frame, State, Outcome, empty_state, post_answer, after_post, step, Ran, ended, after_step, no_goal, refusal, run_on}
use Rattle.machine.specs.Ledger.{SameFacts, IsIdle, waiting, Act, posting, stepping, running, reading, Reply, reply, after_act, History, created, acted, SaysQuiet, IsSound, QuietIsVouched}
use Rattle.machine.proofs.Stands.{rule-stands}
use Rattle.machine.proofs.Settings.{choose, ready-from, ready-length}
use Rattle.machine.proofs.Places.{offset}
use Rattle.machine.proofs.Moves.{lacks, crowds, Move, move, ends, stores, full, wakes, forgets, loses, finishes, passes, applies, step_case, option_both}
use Rattle.machine.proofs.Keeps.{Inv, Choice, Pending, label_at, bring-keeps, moved}
use Rattle.machine.proofs.Counts.{tally-append}

pub no_goal-empty : (st : State) → no_goal st ≡ true → st.goals ≡ []
no_goal-empty st e = go st.goals (eqb-true (length st.goals) 0 e)
  where
    go : (gs : List Goal) → length gs ≡ 0 → gs ≡ []
    go [] q = refl
    go (g ∷ gs) q = absurd (omega arith)

not_stopped : (k : StepFault) → ends.Stopped k ≡ ends.Quiet → ⊥
not_stopped k e = let z : ◌≡◌ {A = ℕ} 0 1 = cc in omega arith

headed : (fr : Frame) → IsSound fr → (r : Rule) → Memᴰ r fr.rules → 1 ≤ heads_of r
headed fr s r m = omega (arith, length-append r.keeps r.drops, (rule-stands every_word s.stands m).drops)

pub empty_inv : (fr : Frame) → IsSound fr → Inv fr empty_state
empty_inv fr s = record { span = omega arith; covered = λ r m c h. none r m c h }
  where
    none : (r : Rule) (m : Memᴰ r fr.rules) (c : List Pair) → Choice fr r [] c → (j : ℕ) × (j < heads_of r) × Pending [] (label_at c j) (suc (offset m + j))
    none r m [] h = absurd (omega (arith, headed fr s r m, ready-length fr.system r [] h.suits))
    none r m (p ∷ c) h = absurd (Memᴰ.not-nil h.within.0)

module _ (fr : Frame) where
  post_inv : (fs : List Fact) (st : State) (r : Result (Unit {0}) PostFault) → Inv fr st → Inv fr (after_post fr fs st r)
  post_inv fs st (Ok u) k = bring-keeps fr fs st k
  post_inv fs st (Err e) k = k

  pub step_inv : (ns : List ℕ) (st : State) → Inv fr st → Inv fr (step fr ns st).state
  step_inv ns st k = step_case fr ns st (λ (o : Outcome). Inv fr o.state) (λ e. k) (λ e. moved fr st ns (move fr st ns st.goals) refl k)

  run_inv : (n : ℕ) (ns : List ℕ) (st : State) → Inv fr st → Inv fr (run_on fr n ns st).state
  run_inv zero ns st k = k
  run_inv (suc n) ns st k =
      let o = step fr ns st in
      let below = run_inv n o.list o.state (step_inv ns st k) in
      cond_both (no_goal st) (ended ends.Quiet ns st) _ (λ (r : Ran). Inv fr r.state) (λ e. k)
      (λ e. option_both (refusal o.answer) (λ (r : Ran). Inv fr r.state) (after_step o.answer (run_on fr n o.list o.state)) (λ i. ended (ends.Stopped i) ns st) (λ q. below) (λ i q. k))

  act_inv : (a : Act) (st : State) → Inv fr st → Inv fr (after_act fr a st)
  act_inv (posting fs) st k = post_inv fs st (post_answer fr fs st) k
  act_inv (stepping ns) st k = step_inv ns st k
  act_inv (running ns budget) st k =
      cond_both (ltb (length ns) fr.capacity) (ended (ends.Stopped fault.List) ns st) (run_on fr budget ns st) (λ (r : Ran). Inv fr r.state) (λ e. k) (λ e. run_inv budget ns st k)
  act_inv (reading l) st k = k

  pub history_inv : IsSound fr → {h : List (Act × Reply)} {st : State} → History fr h st → Inv fr st
  history_inv s created = empty_inv fr s
  history_inv s (acted {st = st} k a) = act_inv a st (history_inv s k)

  -- only an empty stack is Quiet
  quiet-empty : (st : State) (ns : List ℕ) {gs : List Goal} {o : Outcome} → Move fr st ns gs o → st.goals ≡ gs → o.answer ≡ Quiet → o.state.goals ≡ []
  quiet-empty st ns ends e q = e
  quiet-empty st ns (stores a) e q = let z : ◌≡◌ {A = ℕ} 0 1 = cc in absurd (omega arith)
  quiet-empty st ns (full n a) e q = let z : ◌≡◌ {A = ℕ} 0 1 = cc in absurd (omega arith)
  quiet-empty st ns (wakes a) e q = let z : ◌≡◌ {A = ℕ} 0 1 = cc in absurd (omega arith)
  quiet-empty st ns (forgets a) e q = let z : ◌≡◌ {A = ℕ} 0 1 = cc in absurd (omega arith)
  quiet-empty st ns (loses a) e q = let z : ◌≡◌ {A = ℕ} 0 1 = cc in absurd (omega arith)
  quiet-empty st ns (finishes y a) e q = let z : ◌≡◌ {A = ℕ} 0 1 = cc in absurd (omega arith)
  quiet-empty st ns (passes y h a b) e q = let z : ◌≡◌ {A = ℕ} 0 1 = cc in absurd (omega arith)
  quiet-empty st ns (applies y h a c b fs d n) e q = let z : ◌≡◌ {A = ℕ} 0 1 = cc in absurd (omega arith)
  quiet-empty st ns (lacks y h a c b d) e q = let z : ◌≡◌ {A = ℕ} 0 1 = cc in absurd (omega arith)
  quiet-empty st ns (crowds y h a c b fs d n z) e q = let u : ◌≡◌ {A = ℕ} 0 1 = cc in absurd (omega arith)

  rest_empty : (n : ℕ) (ns : List ℕ) (st : State) → (run_on fr n ns st).end ≡ ends.Quiet → (run_on fr n ns st).state.goals ≡ []
  rest_empty zero ns st =
      cond_both (no_goal st) ends.Quiet ends.Spent (λ e. e ≡ ends.Quiet → st.goals ≡ []) (λ e q. no_goal-empty st e)
      (λ e q. let z : ◌≡◌ {A = ℕ} 0 1 = cc in absurd (omega arith))
  rest_empty (suc n) ns st =
      let o = step fr ns st in
      let below = rest_empty n o.list o.state in
      cond_both (no_goal st) (ended ends.Quiet ns st) _ (λ (r : Ran). r.end ≡ ends.Quiet → r.state.goals ≡ []) (λ e q. no_goal-empty st e)
      (λ e. option_both (refusal o.answer) (λ (r : Ran). r.end ≡ ends.Quiet → r.state.goals ≡ []) (after_step o.answer (run_on fr n o.list o.state)) (λ i. ended (ends.Stopped i) ns st) (λ q. below) (λ i q t. absurd (not_stopped i t)))

  pub act_empty : (a : Act) (st : State) → SaysQuiet (reply fr a st) → (after_act fr a st).goals ≡ []
  act_empty (posting fs) st q = absurd q
  act_empty (stepping ns) st q =
      step_case fr ns st (λ (o : Outcome). o.answer ≡ Quiet → o.state.goals ≡ [])
      (λ e q. let z : ◌≡◌ {A = ℕ} 0 1 = cc in absurd (omega arith))
      (λ e q. quiet-empty st ns (move fr st ns st.goals) refl q) q
  act_empty (running ns budget) st q =
      cond_both (ltb (length ns) fr.capacity) (ended (ends.Stopped fault.List) ns st) (run_on fr budget ns st) (λ (r : Ran). r.end ≡ ends.Quiet → r.state.goals ≡ [])
      (λ e q. let z : ◌≡◌ {A = ℕ} 0 1 = cc in absurd (omega arith))
      (λ e q. rest_empty budget ns st q) q
  act_empty (reading l) st q = absurd q

  nothing : (g : Goal) (gs : List Goal) → gs ≡ [] → Memᴰ g gs → ⊥
  nothing g gs e m = Memᴰ.not-nil (subst (Memᴰ g) e m)

  -- with no goal, no rule is ready
  pub empty-idle : IsSound fr → (st : State) → Inv fr st → st.goals ≡ [] → IsIdle fr st
  empty-idle s st k e r m d =
      let ps = st.pairs in
      let same' : SameFacts (facts ps) (d.chosen ++ d.others) = λ t. omega (arith, d.parts t, tally-append t (facts ps) (waiting st.goals), ap (λ gs. tally t (waiting gs)) e) in
      let c = choose d.chosen d.others ps 0 st.next k.span same' in
      let o = k.covered r m c.0 (record {
        within = c.2;
        apart = c.3;
        suits = subst (λ fs. ready fr.system r fs ≡ true) (sym c.1) (ready-from fr.system r d.setting d.chosen every_word (rule-stands every_word s.stands m).whens d.suits);
      }) in
      nothing o.2.0 st.goals e o.2.1

-- the state before the last act
abbrev Before : (fr : Frame) → List (Act × Reply) → State → Type 0
Before fr [] st = Unit {0}
Before fr (x ∷ h) st = (u : State) × History fr h u × (x.1 ≡ reply fr x.0 u) × (st ≡ after_act fr x.0 u)

before : (fr : Frame) {h : List (Act × Reply)} {st : State} → History fr h st → Before fr h st
before fr created = tt
before fr (acted {st = u} k a) = (u, k, refl, refl)

pub act_quiet : (fr : Frame) → IsSound fr → (a : Act) (st : State) → Inv fr st → SaysQuiet (reply fr a st) → IsIdle fr (after_act fr a st)
act_quiet fr s a st k q = empty-idle fr s (after_act fr a st) (act_inv fr a st k) (act_empty fr a st q)

pub quiet_vouched : QuietIsVouched
quiet_vouched fr s h a y st k q =
    let b = before fr k in
    subst (λ (st : State). IsIdle fr st) (sym b.3) (act_quiet fr s a b.0 (history_inv fr s b.1) (subst SaysQuiet b.2 q))
