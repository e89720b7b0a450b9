-- Every step is a transition, and every transition is the step.
use Rattle.std.proofs.Common.{◌≡◌, ℕ, ◌<◌, ◌≤◌, ltb, List, [], ◌∷◌, length, Some, None, Option, sym, refl, ap, ◌∙◌, subst, inl, inr, arith}
use Rattle.std.proofs.lemmas.Bool.{cond-true, cond-false, lt-ltb, le-ltb, cases_lt}
use Rattle.facts.specs.declared.fact_types.Fact.{Fact}
use Rattle.rules.specs.Closed.{head}
use Rattle.stores.specs.Lists.{has}
use Rattle.stores.specs.Store.{Pair, labels}
use Rattle.machine.specs.declared.goal_types.Goal.{Goal}
use Rattle.machine.specs.declared.goal_types.Goal.TheVariants.{Wait, Look, Try}
use Rattle.machine.specs.declared.answer_types.Answer.{Answer}
use Rattle.machine.specs.declared.answer_types.Answer.TheVariants.{Woken, Dropped, Refused}
use Rattle.machine.specs.declared.answer_types.Shortage.{Shortage}
use Rattle.machine.specs.declared.answer_types.Shortage.TheVariants.{Goals, Facts, Labels}
use Rattle.machine.specs.declared.answer_types.StepFault.TheVariants as fault
use Rattle.machine.specs.Faults.{short_step}
use Rattle.machine.specs.Machine.{Frame, State, Outcome, answered, chosen, left_of, with_goals, seen, store_shortage, shortage, step, goal_step, wait_room, try_head, try_choice, apply_body, apply_room}
use Rattle.machine.specs.Transitions.{WorksOn, Finds, gives, leaves, tells, Transition, Tries, nothing_is_left, waiting_is_stored, stored_is_woken, gone_is_not_woken, gone_is_dropped, tried_is_dropped, none_suits, rule_is_applied, list_is_short, store_is_full, labels_are_out, body_lacks_a_value, goals_exceed, facts_exceed, labels_exceed, StepsAreTransitions, TransitionsAreSteps}
use Rattle.machine.proofs.Spans.{Span}
use Rattle.machine.proofs.Moves.{Move, move, ends, stores, full, wakes, forgets, loses, finishes, passes, applies, lacks, crowds, step_case}
use Rattle.machine.proofs.Rooms.{some-none, some-some, store_fits, store_cramped, fits_store_lem, store_full, store_out, room_store, room_full, room_case}
use Rattle.machine.proofs.Orders.{none-suiting, none-chosen, chosen_lowest, lowest_chosen}
use Rattle.machine.proofs.Accounts.{history_good}

above : (a b : ℕ) → (a ≤ b → ⊥) → b < a
above a b f = elim (cases_lt b a) [ inl h ↦ h | inr h ↦ absurd (f h) ]

module _ (fr : Frame) (ns : List ℕ) (st : State) (span : Span 0 st.pairs st.next) where
  -- a refusal for a shortage
  abbrev Refuses : Shortage → Type 0
  Refuses k = Transition fr ns st (Refused (short_step k)) st ns

  of_move : fr.capacity ≤ length ns → {gs : List Goal} {o : Outcome} → Move fr st ns gs o → st.goals ≡ gs → Transition fr ns st o.answer o.state o.list
  of_move wide ends e = nothing_is_left (record { wide = wide; goals = e })
  of_move wide (stores {f = f} {gs = gs} q) e =
      let k = store_fits fr st 1 q in
      waiting_is_stored f gs (record { wide = wide; goals = e }) (omega (arith, k.0)) (omega (arith, k.1))
  of_move wide (full {f = f} {gs = gs} n q) e = elim (store_cramped fr st 1 n q) [
    | inl k ↦ subst Refuses (sym k.0) (store_is_full f gs (record { wide = wide; goals = e }) (omega (arith, k.1)))
    | inr k ↦ subst Refuses (sym k.0) (labels_are_out f gs (record { wide = wide; goals = e }) (omega (arith, k.1)) (omega (arith, k.2)))
  ]
  of_move wide (wakes {l = l} {gs = gs} q) e = stored_is_woken l gs (record { wide = wide; goals = e }) q
  of_move wide (forgets {l = l} {gs = gs} q) e = gone_is_not_woken l gs (record { wide = wide; goals = e }) q
  of_move wide (loses {l = l} {i = i} {gs = gs} q) e = gone_is_dropped l i gs (record { wide = wide; goals = e }) q
  of_move wide (finishes {l = l} {i = i} {gs = gs} y q) e = tried_is_dropped l i gs (record { wide = wide; goals = e }) y q
  of_move wide (passes {l = l} {i = i} {gs = gs} y h hh hc) e =
      none_suits (record { active = l; number = i; below = gs; works = record { wide = wide; goals = e }; held = y; place = h; at = hh }) (none-suiting fr h l st.pairs hc)
  of_move wide (applies {l = l} {i = i} {gs = gs} y h hh c hc fs q z) e =
      let left = left_of fr.system h l i gs st c in
      let t : Tries fr ns st = record { active = l; number = i; below = gs; works = record { wide = wide; goals = e }; held = y; place = h; at = hh } in
      let low = chosen_lowest fr h l st.pairs st.next span c hc in
      elim (room_case fr left fs) [
        | inl k ↦ absurd (some-none Goals (sym k.0 ∙ z))
        | inr k ↦ let f = store_fits fr left (length (seen fr.rules fs)) (sym k.0 ∙ z) in rule_is_applied t c fs low q k.1 f.0 f.1
      ]
  of_move wide (lacks {l = l} {i = i} {gs = gs} y h hh c hc q) e =
      body_lacks_a_value (record { active = l; number = i; below = gs; works = record { wide = wide; goals = e }; held = y; place = h; at = hh }) c
      (chosen_lowest fr h l st.pairs st.next span c hc) q
  of_move wide (crowds {l = l} {i = i} {gs = gs} y h hh c hc fs q n z) e =
      let left = left_of fr.system h l i gs st c in
      let t : Tries fr ns st = record { active = l; number = i; below = gs; works = record { wide = wide; goals = e }; held = y; place = h; at = hh } in
      let low = chosen_lowest fr h l st.pairs st.next span c hc in
      elim (room_case fr left fs) [
        | inl k ↦ subst Refuses (some-some Goals n (sym k.0 ∙ z)) (goals_exceed t c fs low q (λ m. omega (arith, k.1, m)))
        | inr k ↦ elim (store_cramped fr left (length (seen fr.rules fs)) n (sym k.0 ∙ z)) [
          | inl j ↦ subst Refuses (sym j.0) (facts_exceed t c fs low q k.1 (λ m. omega (arith, j.1, m)))
          | inr j ↦ subst Refuses (sym j.0) (labels_exceed t c fs low q k.1 j.1 (λ m. omega (arith, j.2, m)))
        ]
      ]

  pub transition : Transition fr ns st (step fr ns st).answer (step fr ns st).state (step fr ns st).list
  transition =
      step_case fr ns st (λ (o : Outcome). Transition fr ns st o.answer o.state o.list)
      (λ e. list_is_short e) (λ e. of_move e (move fr st ns st.goals) refl)

  -- the other way round
  whole : (o : Outcome) (gs : List Goal) → WorksOn fr ns st gs → goal_step fr st ns gs ≡ o → step fr ns st ≡ o
  whole o gs w q =
      cond-false (ltb (length ns) fr.capacity) (answered (Refused fault.List) st ns) (goal_step fr st ns st.goals) (le-ltb (length ns) fr.capacity w.wide)
      ∙ (ap (goal_step fr st ns) w.goals ∙ q)

  waits : (f : Fact) (gs : List Goal) (n : Option Shortage) → store_shortage fr st 1 ≡ n → goal_step fr st ns (Wait f ∷ gs) ≡ wait_room f gs st ns n
  waits f gs n e = ap (wait_room f gs st ns) e

  module _ (t : Tries fr ns st) where
    tries : (o : Option (List Pair)) → chosen fr.system t.place.rule t.place.place t.active st.pairs ≡ o →
        goal_step fr st ns (Try t.active t.number ∷ t.below) ≡ try_choice fr t.place t.active t.number t.below st ns o
    tries o e =
        cond-true (has t.active (labels st.pairs)) (try_head fr t.active t.number t.below st ns (head fr.rules t.number)) (answered Dropped (with_goals st t.below) ns) t.held
        ∙ (ap (try_head fr t.active t.number t.below st ns) t.at ∙ ap (try_choice fr t.place t.active t.number t.below st ns) e)

    tried : (o : Outcome) → goal_step fr st ns (Try t.active t.number ∷ t.below) ≡ o → step fr ns st ≡ o
    tried o q = whole o (Try t.active t.number ∷ t.below) t.works q

    module _ (c : List Pair) (low : Finds t c) where
      bodies : (o : Option (List Fact)) → gives t c ≡ o →
          goal_step fr st ns (Try t.active t.number ∷ t.below) ≡ apply_body fr t.place t.active t.number t.below st ns c o
      bodies o e =
          tries (Some c) (lowest_chosen fr t.place t.active st.pairs st.next span c low)
          ∙ ap (apply_body fr t.place t.active t.number t.below st ns c) e

      rooms : (fs : List Fact) → gives t c ≡ Some fs → (n : Option Shortage) → shortage fr fs (leaves t c) ≡ n →
          goal_step fr st ns (Try t.active t.number ∷ t.below) ≡ apply_room fr st ns (leaves t c) (tells t c fs) fs n
      rooms fs q n e = bodies (Some fs) q ∙ ap (apply_room fr st ns (leaves t c) (tells t c fs) fs) e

  pub is-step : {y : Answer} {st' : State} {ns' : List ℕ} → Transition fr ns st y st' ns' → step fr ns st ≡ record { state = st'; answer = y; list = ns' }
  is-step (nothing_is_left w) = whole _ [] w refl
  is-step (waiting_is_stored f gs w a b) = whole _ (Wait f ∷ gs) w (waits f gs None (fits_store_lem fr st 1 (omega arith, omega arith)))
  is-step (stored_is_woken l gs w q) =
      whole _ (Look l ∷ gs) w (cond-true (has l (labels st.pairs)) (answered Woken (with_goals st (Try l 1 ∷ gs)) ns) (answered Dropped (with_goals st gs) ns) q)
  is-step (gone_is_not_woken l gs w q) =
      whole _ (Look l ∷ gs) w (cond-false (has l (labels st.pairs)) (answered Woken (with_goals st (Try l 1 ∷ gs)) ns) (answered Dropped (with_goals st gs) ns) q)
  is-step (gone_is_dropped l i gs w q) =
      whole _ (Try l i ∷ gs) w (cond-false (has l (labels st.pairs)) (try_head fr l i gs st ns (head fr.rules i)) (answered Dropped (with_goals st gs) ns) q)
  is-step (tried_is_dropped l i gs w y q) =
      whole _ (Try l i ∷ gs) w
      (cond-true (has l (labels st.pairs)) (try_head fr l i gs st ns (head fr.rules i)) (answered Dropped (with_goals st gs) ns) y ∙ ap (try_head fr l i gs st ns) q)
  is-step (none_suits t f) = tried t _ (tries t None (none-chosen fr t.place t.active st.pairs f))
  is-step (rule_is_applied t c fs low q a b d) =
      tried t _ (rooms t c low fs q None (room_store fr (leaves t c) fs a ∙ fits_store_lem fr (leaves t c) (length (seen fr.rules fs)) (b, d)))
  is-step (list_is_short a) =
      cond-true (ltb (length ns) fr.capacity) (answered (Refused fault.List) st ns) (goal_step fr st ns st.goals) (lt-ltb (length ns) fr.capacity a)
  is-step (store_is_full f gs w a) = whole _ (Wait f ∷ gs) w (waits f gs (Some Facts) (store_full fr st 1 (omega arith)))
  is-step (labels_are_out f gs w a b) = whole _ (Wait f ∷ gs) w (waits f gs (Some Labels) (store_out fr st 1 (omega arith) (omega arith)))
  is-step (body_lacks_a_value t c low q) = tried t _ (bodies t c low None q)
  is-step (goals_exceed t c fs low q a) = tried t _ (rooms t c low fs q (Some Goals) (room_full fr (leaves t c) fs (above _ _ a)))
  is-step (facts_exceed t c fs low q a b) =
      tried t _ (rooms t c low fs q (Some Facts) (room_store fr (leaves t c) fs a ∙ store_full fr (leaves t c) (length (seen fr.rules fs)) (above _ _ b)))
  is-step (labels_exceed t c fs low q a b d) =
      tried t _ (rooms t c low fs q (Some Labels) (room_store fr (leaves t c) fs a ∙ store_out fr (leaves t c) (length (seen fr.rules fs)) b (above _ _ d)))

pub steps_are_transitions : StepsAreTransitions
steps_are_transitions fr h st k ns = transition fr ns st (history_good fr h st k).4.span

pub transitions_are_steps : TransitionsAreSteps
transitions_are_steps fr h st st' ns ns' y k t = is-step fr ns st (history_good fr h st k).4.span t
