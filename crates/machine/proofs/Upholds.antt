-- Every act upholds what is promised of it.
use Rattle.std.proofs.Common.{◌≡◌, ℕ, ◌≤◌, List, ◌∷◌, sym, subst}
use Rattle.machine.specs.declared.answer_types.Answer.{Answer}
use Rattle.machine.specs.declared.answer_types.Answer.TheVariants.{Applied}
use Rattle.machine.specs.declared.answer_types.Application.{Application}
use Rattle.machine.specs.declared.answer_types.End.TheVariants.{Quiet}
use Rattle.machine.specs.Machine.{Frame, State, step, Ran, run}
use Rattle.machine.specs.Ledger.{Act, stepping, to_step, to_run, reply, after_act, acted, goal_bound, HasRested}
use Rattle.machine.specs.Upheld.{WasApplied, AllIsUpheld}
use Rattle.machine.proofs.Steps.{Told, Good}
use Rattle.machine.proofs.Accounts.{act_grown, step-told, history_good}
use Rattle.machine.proofs.Vouches.{act_quiet, history_inv}
use Rattle.machine.proofs.Rests.{idle-rests}

-- a step's application
step-applies : (fr : Frame) (st : State) → Good fr st → (ns ms : List ℕ) (b : Application) → reply fr (stepping ns) st ≡ to_step (Applied b) ms →
    WasApplied fr st (after_act fr (stepping ns) st) ns ms b
step-applies fr st g ns ms b e =
    let o = step fr ns st in
    let q : o.answer ≡ Applied b = cc in
    let p : o.list ≡ ms = cc in
    let t : Told fr ns st o.state (Applied b) o.list = subst (λ (y : Answer). Told fr ns st o.state y o.list) q (step-told g ns).1 in
    subst (λ (l : List ℕ). WasApplied fr st o.state ns l b) p t

rested : (ns : List ℕ) (most : ℕ) (r : Ran) → HasRested ns most r →
    (n : ℕ) × (to_run r.end r.steps r.applications r.list ≡ to_run Quiet n 0 ns) × (n ≤ most)
rested ns most r k = (r.steps, (λ i. to_run (k.end i) r.steps (k.applications i) (k.list i)), k.steps)

pub all_upheld : AllIsUpheld
all_upheld fr s h a st k =
    let g = (history_good fr h st k).4 in
    let d = act_grown g a in
    let i = history_good fr ((a, reply fr a st) ∷ h) (after_act fr a st) (acted k a) in
    record {
      goes_on = acted k a;
      changes = (d.0, d.1, d.2);
      accounts = (i.0, i.1, i.2, i.3);
      applies = λ ns ms b e q.
          subst (λ (x : Act). WasApplied fr st (after_act fr x st) ns ms b) (sym e)
          (step-applies fr st g ns ms b (subst (λ (x : Act). reply fr x st ≡ to_step (Applied b) ms) e q));
      quiet = λ q. act_quiet fr s a st (history_inv fr s k) q;
      rests = λ ns budget e idle room wide enough.
          subst (λ (x : Act). (n : ℕ) × (reply fr x st ≡ to_run Quiet n 0 ns) × (n ≤ goal_bound fr st)) (sym e)
          (rested ns (goal_bound fr st) (run fr ns budget st) (idle-rests fr h st k idle room ns budget wide enough));
    }
