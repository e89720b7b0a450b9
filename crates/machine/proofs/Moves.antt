-- What a step on the goals of a state can be.
use Rattle.std.proofs.Common.{◌≡◌, ℕ, suc, ◌<◌, ◌≤◌, ltb, length, true, false, List, [], ◌∷◌, Some, None, Option, refl}
use Rattle.std.proofs.lemmas.Bool.{cond_both, ltb-true, ltb-false}
use Rattle.facts.specs.declared.fact_types.Fact.{Fact}
use Rattle.rules.specs.Closed.{Place, head}
use Rattle.stores.specs.Lists.{has}
use Rattle.stores.specs.Store.{Pair, labels}
use Rattle.machine.specs.declared.goal_types.Goal.{Goal}
use Rattle.machine.specs.declared.goal_types.Goal.TheVariants.{Wait, Look, Try}
use Rattle.machine.specs.declared.answer_types.Answer.TheVariants.{Quiet, Stored, Woken, Dropped, Passed, Applied, Refused}
use Rattle.machine.specs.declared.answer_types.Shortage.{Shortage}
use Rattle.machine.specs.declared.answer_types.StepFault.{StepFault}
use Rattle.machine.specs.declared.answer_types.StepFault.TheVariants as fault
use Rattle.machine.specs.Faults.{short_step}
use Rattle.machine.specs.Machine.{account, answered, listed, wait_room, with_goals, with_fact, left_of, given_of, store_shortage, Frame, State, Outcome, chosen, bring, shortage, apply_room, apply_body, try_choice, try_head, goal_step, step, Ran}

pub data Move (fr : Frame) (st : State) (ns : List ℕ) : List Goal → Outcome → Type 0 where
  ends : Move fr st ns [] (answered Quiet st ns)
  stores : {f : Fact} {gs : List Goal} → store_shortage fr st 1 ≡ None → Move fr st ns (Wait f ∷ gs) (answered Stored (with_fact f gs st) ns)
  full : {f : Fact} {gs : List Goal} (n : Shortage) → store_shortage fr st 1 ≡ Some n → Move fr st ns (Wait f ∷ gs) (answered (Refused (short_step n)) st ns)
  wakes : {l : ℕ} {gs : List Goal} → has l (labels st.pairs) ≡ true → Move fr st ns (Look l ∷ gs) (answered Woken (with_goals st (Try l 1 ∷ gs)) ns)
  forgets : {l : ℕ} {gs : List Goal} → has l (labels st.pairs) ≡ false → Move fr st ns (Look l ∷ gs) (answered Dropped (with_goals st gs) ns)
  loses : {l i : ℕ} {gs : List Goal} → has l (labels st.pairs) ≡ false → Move fr st ns (Try l i ∷ gs) (answered Dropped (with_goals st gs) ns)
  finishes : {l i : ℕ} {gs : List Goal} → has l (labels st.pairs) ≡ true → head fr.rules i ≡ None → Move fr st ns (Try l i ∷ gs) (answered Dropped (with_goals st gs) ns)
  passes : {l i : ℕ} {gs : List Goal} → has l (labels st.pairs) ≡ true → (h : Place) → head fr.rules i ≡ Some h →
      chosen fr.system h.rule h.place l st.pairs ≡ None → Move fr st ns (Try l i ∷ gs) (answered Passed (with_goals st (Try l (suc i) ∷ gs)) ns)
  applies : {l i : ℕ} {gs : List Goal} → has l (labels st.pairs) ≡ true → (h : Place) → head fr.rules i ≡ Some h →
      (c : List Pair) → chosen fr.system h.rule h.place l st.pairs ≡ Some c →
      (fs : List Fact) → given_of fr.system h.rule st.pairs c ≡ Some fs → shortage fr fs (left_of fr.system h l i gs st c) ≡ None →
      Move fr st ns (Try l i ∷ gs)
      (record {
        state = bring fr.rules fs (left_of fr.system h l i gs st c);
        answer = Applied (account fr.system h l st.pairs c fs).answer;
        list = listed (account fr.system h l st.pairs c fs).labels ns;
      })
  lacks : {l i : ℕ} {gs : List Goal} → has l (labels st.pairs) ≡ true → (h : Place) → head fr.rules i ≡ Some h →
      (c : List Pair) → chosen fr.system h.rule h.place l st.pairs ≡ Some c →
      given_of fr.system h.rule st.pairs c ≡ None → Move fr st ns (Try l i ∷ gs) (answered (Refused fault.Body) st ns)
  crowds : {l i : ℕ} {gs : List Goal} → has l (labels st.pairs) ≡ true → (h : Place) → head fr.rules i ≡ Some h →
      (c : List Pair) → chosen fr.system h.rule h.place l st.pairs ≡ Some c →
      (fs : List Fact) → given_of fr.system h.rule st.pairs c ≡ Some fs → (n : Shortage) → shortage fr fs (left_of fr.system h l i gs st c) ≡ Some n →
      Move fr st ns (Try l i ∷ gs) (answered (Refused (short_step n)) st ns)

module _ (fr : Frame) (st : State) (ns : List ℕ) where
  module _ (l i : ℕ) (gs : List Goal) (y : has l (labels st.pairs) ≡ true) where
    module _ (h : Place) (hh : head fr.rules i ≡ Some h) where
      module _ (c : List Pair) (hc : chosen fr.system h.rule h.place l st.pairs ≡ Some c) where
        room_move : (fs : List Fact) → given_of fr.system h.rule st.pairs c ≡ Some fs → (n : Option Shortage) → shortage fr fs (left_of fr.system h l i gs st c) ≡ n →
            Move fr st ns (Try l i ∷ gs) (apply_room fr st ns (left_of fr.system h l i gs st c) (account fr.system h l st.pairs c fs) fs n)
        room_move fs q None e = applies y h hh c hc fs q e
        room_move fs q (Some n) e = crowds y h hh c hc fs q n e

        body-move : (o : Option (List Fact)) → given_of fr.system h.rule st.pairs c ≡ o → Move fr st ns (Try l i ∷ gs) (apply_body fr h l i gs st ns c o)
        body-move None q = lacks y h hh c hc q
        body-move (Some fs) q = room_move fs q (shortage fr fs (left_of fr.system h l i gs st c)) refl

      choice_move : (o : Option (List Pair)) → chosen fr.system h.rule h.place l st.pairs ≡ o → Move fr st ns (Try l i ∷ gs) (try_choice fr h l i gs st ns o)
      choice_move None e = passes y h hh e
      choice_move (Some c) e = body-move c e (given_of fr.system h.rule st.pairs c) refl

    head-move : (o : Option Place) → head fr.rules i ≡ o → Move fr st ns (Try l i ∷ gs) (try_head fr l i gs st ns o)
    head-move None e = finishes y e
    head-move (Some h) e = choice_move h e (chosen fr.system h.rule h.place l st.pairs) refl

  wait_move : (f : Fact) (gs : List Goal) (n : Option Shortage) → store_shortage fr st 1 ≡ n → Move fr st ns (Wait f ∷ gs) (wait_room f gs st ns n)
  wait_move f gs None e = stores e
  wait_move f gs (Some n) e = full n e

  pub move : (gs : List Goal) → Move fr st ns gs (goal_step fr st ns gs)
  move [] = ends
  move (Wait f ∷ gs) = wait_move f gs (store_shortage fr st 1) refl
  move (Look l ∷ gs) = cond_both (has l (labels st.pairs)) _ _ (Move fr st ns (Look l ∷ gs)) (λ e. wakes e) (λ e. forgets e)
  move (Try l i ∷ gs) =
      cond_both (has l (labels st.pairs)) _ _ (Move fr st ns (Try l i ∷ gs)) (λ e. head-move l i gs e (head fr.rules i) refl) (λ e. loses e)

-- a step is refused, where the list is short, or works on the goals
pub step_case : (fr : Frame) (ns : List ℕ) (st : State) (P : Outcome → Type 0) →
    (length ns < fr.capacity → P (answered (Refused fault.List) st ns)) → (fr.capacity ≤ length ns → P (goal_step fr st ns st.goals)) → P (step fr ns st)
step_case fr ns st P a b =
    cond_both (ltb (length ns) fr.capacity) (answered (Refused fault.List) st ns) (goal_step fr st ns st.goals) P
    (λ e. a (ltb-true (length ns) fr.capacity e)) (λ e. b (ltb-false (length ns) fr.capacity e))

-- a run goes on unless a step is refused
pub option_both : (o : Option StepFault) (P : Ran → Type 0) (x : Ran) (f : StepFault → Ran) → (o ≡ None → P x) → ((k : StepFault) → o ≡ Some k → P (f k)) →
    P (elim o as (λ _. Ran) [ None ↦ x | Some k ↦ f k ])
option_both None P x f a b = a refl
option_both (Some k) P x f a b = b k refl
