-- A run is its steps.
use Rattle.std.proofs.Common.{◌≡◌, ℕ, zero, suc, ◌+◌, ◌-◌, ◌*◌, ◌≤◌, Bool, true, false, cond, not, ltb, List, [], ◌∷◌, ◌++◌, map, length, Some, None, filter, sym, refl, ap, inl, inr, suc-mul, add-mul, arith, Ok, Err, Result}
use Rattle.std.proofs.lemmas.Bool.{cond-true, cond_both, eqb-false}
use Rattle.machine.specs.declared.answer_types.Answer.{Answer}
use Rattle.machine.specs.declared.answer_types.Answer.TheVariants.{Quiet, Stored, Woken, Dropped, Passed, Applied, Refused}
use Rattle.machine.specs.declared.answer_types.End.{End}
use Rattle.machine.specs.declared.answer_types.End.TheVariants as ends
use Rattle.machine.specs.declared.answer_types.PostFault.{PostFault}
use Rattle.machine.specs.declared.answer_types.StepFault.{StepFault}
use Rattle.machine.specs.declared.answer_types.StepFault.TheVariants as fault
use Rattle.machine.specs.Faults.{short_step}
use Rattle.machine.specs.Machine.{answered, step, after_step, ended, post_answer, after_post, Ran, Outcome, run_on, refusal, applications_of, no_goal, goal_step, Frame, State, gone_of, left_of, numbered, bring}
use Rattle.machine.specs.Runs.{Walk, still, on, applications_in, added_by, added_in, WalksAreBounded, EndsFor, IsWalk, RunsAreWalks, RefusalsLeave}
use Rattle.machine.proofs.Rooms.{some-none, some-some}
use Rattle.machine.proofs.Moves.{step_case, option_both, lacks, crowds, Move, move, ends, stores, full, wakes, forgets, loses, finishes, passes, applies}
use Rattle.machine.proofs.Vouches.{no_goal-empty}
use Rattle.machine.proofs.Rests.{costs, costs_most}
use Rattle.machine.proofs.Places.{head-some}
use Rattle.rules.specs.Rules.{Rule}
use Rattle.rules.specs.Closed.{head_count, watched}
use Rattle.stores.specs.Store.{label, labels}
use Rattle.stores.specs.Lists.{has}
use Rattle.facts.specs.declared.fact_types.Fact.{Fact}
use Rattle.machine.specs.declared.goal_types.Goal.{Goal}
use Rattle.machine.specs.declared.goal_types.Goal.TheVariants.{Wait, Look, Try}

some_goal : (st : State) → no_goal st ≡ false → st.goals ≡ [] → ⊥
some_goal st e q = eqb-false (length st.goals) 0 e (ap length q)

refusal-is : (y : Answer) (e : StepFault) → refusal y ≡ Some e → y ≡ Refused e
refusal-is Quiet e q = absurd (some-none e (sym q))
refusal-is Stored e q = absurd (some-none e (sym q))
refusal-is Woken e q = absurd (some-none e (sym q))
refusal-is Dropped e q = absurd (some-none e (sym q))
refusal-is Passed e q = absurd (some-none e (sym q))
refusal-is (Applied a) e q = absurd (some-none e (sym q))
refusal-is (Refused f) e q = ap Refused (some-some f e q)

module _ (fr : Frame) where
  ends-more : (n : ℕ) (y : Answer) (r : Ran) (e : End) → EndsFor fr n r e → EndsFor fr (suc n) (after_step y r) e
  ends-more n y r ends.Quiet w = w
  ends-more n y r ends.Spent w = (w.0, ap suc w.1)
  ends-more n y r (ends.Stopped i) w = (w.0, elim w.1 [ inl q ↦ inl q | inr q ↦ inr (q.0, omega (arith, q.1)) ])

  -- a run that ends before its first step
  at_once : (n : ℕ) (ns : List ℕ) (st : State) (e : End) → EndsFor fr n (ended e ns st) e → IsWalk fr ns n st (ended e ns st)
  at_once n ns st e w = record { answers = []; walk = still; steps = refl; allowed = omega arith; applications = refl; reason = w }

  walks : (n : ℕ) (ns : List ℕ) (st : State) → IsWalk fr ns n st (run_on fr n ns st)
  walks zero ns st =
      cond_both (no_goal st) ends.Quiet ends.Spent (λ (e : End). IsWalk fr ns 0 st (ended e ns st))
      (λ e. at_once 0 ns st ends.Quiet (no_goal-empty st e))
      (λ e. at_once 0 ns st ends.Spent (some_goal st e, refl))
  walks (suc n) ns st =
      let o = step fr ns st in
      let below = walks n o.list o.state in
      let r = run_on fr n o.list o.state in
      cond_both (no_goal st) (ended ends.Quiet ns st) _ (IsWalk fr ns (suc n) st)
      (λ e. at_once (suc n) ns st ends.Quiet (no_goal-empty st e))
      (λ e. option_both (refusal o.answer) (IsWalk fr ns (suc n) st) (after_step o.answer r) (λ k. ended (ends.Stopped k) ns st)
      (λ q. record {
        answers = o.answer ∷ below.answers;
        walk = on (some_goal st e) q below.walk;
        steps = ap suc below.steps;
        allowed = omega (arith, below.allowed);
        applications = ap (λ (n : ℕ). applications_of o.answer + n) below.applications;
        reason = ends-more n o.answer r r.end below.reason;
      })
      (λ k q. at_once (suc n) ns st (ends.Stopped k) (refusal-is o.answer k q, inr (some_goal st e, omega arith))))

  short : (ns : List ℕ) (st : State) → ltb (length ns) fr.capacity ≡ true → (step fr ns st).answer ≡ Refused fault.List
  short ns st e =
      ap (λ (o : Outcome). o.answer)
      (cond-true (ltb (length ns) fr.capacity) (answered (Refused fault.List) st ns) (goal_step fr st ns st.goals) e)

pub runs_are_walks : RunsAreWalks
runs_are_walks fr ns budget st =
    cond_both (ltb (length ns) fr.capacity) (ended (ends.Stopped fault.List) ns st) (run_on fr budget ns st) (IsWalk fr ns budget st)
    (λ e. at_once fr budget ns st (ends.Stopped fault.List) (short fr ns st e, inl refl))
    (λ e. walks fr budget ns st)

-- refusals --------------------------------------------------------------------------------------------

-- a refused outcome leaves the state and the list
abbrev Left : State → List ℕ → Outcome → Type 0
Left st ns o = (e : StepFault) → refusal o.answer ≡ Some e → (o.state ≡ st) × (o.list ≡ ns)

left_as_found : (fr : Frame) (st : State) (ns : List ℕ) {gs : List Goal} {o : Outcome} → Move fr st ns gs o → Left st ns o
left_as_found fr st ns ends k e = (refl, refl)
left_as_found fr st ns (stores a) k e = absurd (some-none k (sym e))
left_as_found fr st ns (full n a) k e = (refl, refl)
left_as_found fr st ns (wakes a) k e = absurd (some-none k (sym e))
left_as_found fr st ns (forgets a) k e = absurd (some-none k (sym e))
left_as_found fr st ns (loses a) k e = absurd (some-none k (sym e))
left_as_found fr st ns (finishes y a) k e = absurd (some-none k (sym e))
left_as_found fr st ns (passes y h a b) k e = absurd (some-none k (sym e))
left_as_found fr st ns (applies y h a c b fs d n) k e = absurd (some-none k (sym e))
left_as_found fr st ns (lacks y h a c b d) k e = (refl, refl)
left_as_found fr st ns (crowds y h a c b fs d n z) k e = (refl, refl)

step-leaves : (fr : Frame) (ns : List ℕ) (st : State) (e : StepFault) → (step fr ns st).answer ≡ Refused e → ((step fr ns st).state ≡ st) × ((step fr ns st).list ≡ ns)
step-leaves fr ns st e q =
    step_case fr ns st (Left st ns) (λ t k z. (refl, refl)) (λ t. left_as_found fr st ns (move fr st ns st.goals)) e (ap refusal q)

post_leaves : (fr : Frame) (fs : List Fact) (st : State) (e : PostFault) (r : Result (Unit {0}) PostFault) → r ≡ Err e → after_post fr fs st r ≡ st
post_leaves fr fs st e (Ok u) q = let z : ◌≡◌ {A = ℕ} 0 1 = cc in absurd (omega arith)
post_leaves fr fs st e (Err f) q = refl

pub refusals_leave : RefusalsLeave
refusals_leave = record {
  step_state = λ fr ns st e q. (step-leaves fr ns st e q).0;
  step_list = λ fr ns st e q. (step-leaves fr ns st e q).1;
  post_state = λ fr fs st e q. post_leaves fr fs st e (post_answer fr fs st) q;
}

-- the cost of goals ------------------------------------------------------------------------------------

costs-append : (k : ℕ) (gs hs : List Goal) → costs k (gs ++ hs) ≡ costs k gs + costs k hs
costs-append k [] hs = omega arith
costs-append k (g ∷ gs) hs = omega (arith, costs-append k gs hs)

costs-waits : (k : ℕ) (fs : List Fact) → costs k (map Wait fs) ≡ length fs * (k + 2)
costs-waits k [] = omega arith
costs-waits k (f ∷ fs) = omega (arith, costs-waits k fs, suc-mul (length fs) (k + 2))

costs-looks : (k n : ℕ) (fs : List Fact) → costs k (map {B = Goal} (λ p. Look (label p)) (numbered n fs)) ≡ length fs * (k + 2)
costs-looks k n [] = omega arith
costs-looks k n (f ∷ fs) = omega (arith, costs-looks k (suc n) fs, suc-mul (length fs) (k + 2))

kept-both : (p : Fact → Bool) (k : ℕ) (fs : List Fact) → length (filter p fs) * (k + 2) + length (filter (λ f. not (p f)) fs) * (k + 2) ≡ length fs * (k + 2)
kept-both p k [] = omega arith
kept-both p k (f ∷ fs) = go (p f) (kept-both p k fs)
  where
    go : (b : Bool) → length (filter p fs) * (k + 2) + length (filter (λ f. not (p f)) fs) * (k + 2) ≡ length fs * (k + 2) →
        length (cond b (f ∷ filter p fs) (filter p fs)) * (k + 2) + length (cond (not b) (f ∷ filter (λ f. not (p f)) fs) (filter (λ f. not (p f)) fs)) * (k + 2) ≡ length (f ∷ fs) * (k + 2)
    go true below = omega (arith, below, suc-mul (length fs) (k + 2), suc-mul (length (filter p fs)) (k + 2))
    go false below = omega (arith, below, suc-mul (length fs) (k + 2), suc-mul (length (filter (λ f. not (p f)) fs)) (k + 2))

costs-bring : (k : ℕ) (rs : List Rule) (fs : List Fact) (st : State) → costs k (bring rs fs st).goals ≡ length fs * (k + 2) + costs k st.goals
costs-bring k rs fs st =
    let us = filter (λ f. not (watched rs f)) fs in
    let ws = filter (watched rs) fs in
    let ls = map {B = Goal} (λ p. Look (label p)) (numbered st.next ws) in
    omega (arith, costs-append k (map Wait us) (ls ++ st.goals), costs-append k ls st.goals, costs-waits k us, costs-looks k st.next ws, kept-both (watched rs) k fs)

costs-left : (k l i : ℕ) (gs : List Goal) (b : Bool) → costs k (cond b gs (Try l i ∷ gs)) ≤ costs k (Try l i ∷ gs)
costs-left k l i gs true = omega arith
costs-left k l i gs false = omega arith

-- what a step pays
abbrev Pays : Frame → List Goal → Outcome → Type 0
Pays fr gs o =
    refusal o.answer ≡ None →
    suc (costs (head_count fr.rules) o.state.goals) ≤ costs (head_count fr.rules) gs + added_by o.answer * (head_count fr.rules + 2) + applications_of o.answer

pays : (fr : Frame) (st : State) (ns : List ℕ) {gs : List Goal} {o : Outcome} → Move fr st ns gs o → (gs ≡ [] → ⊥) → Pays fr gs o
pays fr st ns ends ne e = absurd (ne refl)
pays fr st ns (stores a) ne e = omega arith
pays fr st ns (full n a) ne e = absurd (some-none (short_step n) e)
pays fr st ns (wakes a) ne e = omega arith
pays fr st ns (forgets a) ne e = omega arith
pays fr st ns (loses a) ne e = omega arith
pays fr st ns (finishes y a) ne e = omega arith
pays fr st ns (passes {i = i} y h eh ec) ne e = omega (arith, head-some 1 fr.rules (i - 1) h eh)
pays fr st ns (applies {l = l} {i = i} {gs = gs} y h eh c ec fs q z) ne e =
    let k = head_count fr.rules in
    omega (arith, costs-bring k fr.rules fs (left_of fr.system h l i gs st c), costs-left k l i gs (has l (labels (gone_of fr.system h.rule st.pairs c))))
pays fr st ns (lacks y h a c b d) ne e = absurd (some-none fault.Body e)
pays fr st ns (crowds y h a c b fs d n z) ne e = absurd (some-none (short_step n) e)

paid : (fr : Frame) {ns ns' : List ℕ} {st st' : State} {ys : List Answer} → Walk fr ns st ys st' ns' →
    length ys ≤ costs (head_count fr.rules) st.goals + added_in ys * (head_count fr.rules + 2) + applications_in ys
paid fr still = omega arith
paid fr (on {ns = ns} {st = st} {ys = ys} ne e w) =
    let k = head_count fr.rules in
    let b = paid fr w in
    let p = step_case fr ns st (Pays fr st.goals) (λ t q. absurd (some-none fault.List q)) (λ t. pays fr st ns (move fr st ns st.goals) ne) e in
    omega (arith, b, p, add-mul (added_by (step fr ns st).answer) (added_in ys) (k + 2))

pub walks_are_bounded : WalksAreBounded
walks_are_bounded fr ns ns' st st' ys w =
    let k = head_count fr.rules in
    omega (arith, paid fr w, costs_most k st.goals, add-mul (length st.goals) (added_in ys) (k + 2))
