-- The end of a job, from what each call of it says.
use Rattle.std.proofs.Common.{◌≡◌, ℕ, List, Some, Ok, Result, Option, sym, ap, ◌∙◌}
use Rattle.facts.specs.declared.fact_types.Fact.{Fact}
use Rattle.machine.specs.Machine.{Frame, State, Ran, empty_state, post_answer, after_post, run}
use Rattle.machine.specs.declared.answer_types.End.{End}
use Rattle.machine.specs.declared.answer_types.PostFault.{PostFault}
use Rattle.engine.specs.Jobs.{IsRun}

-- the run behind an accepted post of a new job
pub ended : (budget : ℕ) (list : List ℕ) (fr fr1 fr2 : Frame) (st1 st2 st3 : State) (fs : List Fact) (ns ns' : List ℕ) (end : End) (steps applied : ℕ) (u : Unit {0})
    → fr1 ≡ fr → st1 ≡ empty_state → st2 ≡ after_post fr1 fs st1 (Ok u) → fr2 ≡ fr1 → ns ≡ list → IsRun (run fr2 ns budget st2) st3 end steps applied ns'
    → ◌≡◌ {A = Option (End × ℕ)} (Some (end, steps)) (Some ((run fr list budget (after_post fr fs empty_state (Ok u))).end, (run fr list budget (after_post fr fs empty_state (Ok u))).steps))
ended budget list fr fr1 fr2 st1 st2 st3 fs ns ns' end steps applied u f s t g n r =
    let state : st2 ≡ after_post fr fs empty_state (Ok u) = t ∙ ap (λ (x : Frame). after_post x fs st1 (Ok u)) f ∙ ap (λ (x : State). after_post fr fs x (Ok u)) s in
    let runs : run fr2 ns budget st2 ≡ run fr list budget (after_post fr fs empty_state (Ok u)) =
    ap (λ (x : Frame). run x ns budget st2) (g ∙ f) ∙ ap (λ (l : List ℕ). run fr l budget st2) n ∙ ap (run fr list budget) state in
    let pair : Ran → Option (End × ℕ) = λ x. Some (x.end, x.steps) in
    rw (r.end, r.steps) (ap pair runs)

pub posted : (fr fr1 : Frame) (st1 : State) (fs : List Fact) (r : Result (Unit {0}) PostFault) → fr1 ≡ fr → st1 ≡ empty_state → r ≡ post_answer fr1 fs st1 → post_answer fr fs empty_state ≡ r
posted fr fr1 st1 fs r f s h = sym (h ∙ ap (λ (x : Frame). post_answer x fs st1) f ∙ ap (post_answer fr fs) s)
