-- What the machine does upholds the promises, so what comes to the same does.
use Rattle.std.proofs.Common.{◌≡◌, ℕ, List, length, Option, Result, sym, subst}
use Rattle.facts.specs.declared.fact_types.Fact.{Fact}
use Rattle.stores.specs.Store.{read}
use Rattle.machine.specs.declared.answer_types.Answer.{Answer}
use Rattle.machine.specs.declared.answer_types.End.{End}
use Rattle.machine.specs.declared.answer_types.PostFault.{PostFault}
use Rattle.machine.specs.Machine.{Frame, State, step, run, post_answer, after_post}
use Rattle.machine.specs.Ledger.{Act, Reply, IsSound, posting, stepping, running, reading, to_post, to_step, to_run, to_read}
use Rattle.machine.specs.Upheld.{Upheld}
use Rattle.machine.proofs.Upholds.{all_upheld}
use Rattle.engine.specs.Calls.{Upholds}
use Rattle.engine.specs.Jobs.{IsOutcome, IsRun}

module _ (fr : Frame) (s : IsSound fr) (st : State) where
  alike : (a : Act) (y z : Reply) (st' st'' : State) → y ≡ z → st' ≡ st'' → Upholds fr st a y st' → Upholds fr st a z st''
  alike a y z st' st'' e f u h hist = subst (λ (x : State). Upheld fr h st a z x) f (subst (λ (x : Reply). Upheld fr h st a x st') e (u h hist))

  pub step_upholds : (ns ms : List ℕ) (y : Answer) (st' : State) → IsOutcome (step fr ns st) st' y ms → Upholds fr st (stepping ns) (to_step y ms) st'
  step_upholds ns ms y st' o =
      alike (stepping ns) _ _ _ _ (λ i. to_step (sym o.answer i) (sym o.list i)) (sym o.state) (λ h hist. all_upheld fr s h (stepping ns) st hist)

  pub run_upholds : (ns ms : List ℕ) (budget : ℕ) (e : End) (n k : ℕ) (st' : State) → IsRun (run fr ns budget st) st' e n k ms → Upholds fr st (running ns budget) (to_run e n k ms) st'
  run_upholds ns ms budget e n k st' o =
      alike (running ns budget) _ _ _ _ (λ i. to_run (sym o.end i) (sym o.steps i) (sym o.applications i) (sym o.list i)) (sym o.state) (λ h hist. all_upheld fr s h (running ns budget) st hist)

  pub post_upholds : (fs : List Fact) (r : Result (Unit {0}) PostFault) (st' : State) → r ≡ post_answer fr fs st → st' ≡ after_post fr fs st r → Upholds fr st (posting fs) (to_post r) st'
  post_upholds fs r st' a n =
      alike (posting fs) _ _ _ _ (λ i. to_post (sym a i)) (λ i. subst (λ (x : Result (Unit {0}) PostFault). after_post fr fs st x ≡ st') a (sym n) i) (λ h hist. all_upheld fr s h (posting fs) st hist)

  pub read_upholds : (l : ℕ) (o : Option Fact) (n k : ℕ) → o ≡ read l st.pairs → n ≡ length st.pairs → k ≡ length st.goals → Upholds fr st (reading l) (to_read o n k) st
  read_upholds l o n k p q r =
      alike (reading l) _ _ _ _ (λ i. to_read (sym p i) (sym q i) (sym r i)) (λ _. st) (λ h hist. all_upheld fr s h (reading l) st hist)
