-- A job with no rule ready comes to rest within a bound.
use Rattle.std.proofs.Common.{◌≡◌, ℕ, zero, suc, ◌+◌, ◌-◌, ◌*◌, ◌<◌, ◌≤◌, Bool, ◌&&◌, ltb, List, [], ◌∷◌, ◌++◌, length, Some, None, Option, sym, refl, ap, ◌∙◌, subst, suc-mul, arith, length-append}
use mathlib.Core.List.{Memᴰ}
use lib.ListN.{length-map}
use Rattle.std.proofs.lemmas.Bool.{cond_both, cond-true, ltb-true, eq-eqb, eqb-false, and_parts}
use Rattle.machine.specs.declared.answer_types.End.TheVariants as ends
use Rattle.machine.specs.declared.answer_types.StepFault.{StepFault}
use Rattle.machine.specs.declared.answer_types.StepFault.TheVariants as fault
use Rattle.machine.proofs.Rooms.{some-none, fits_store_lem}
use Rattle.machine.proofs.Moves.{step_case, option_both, lacks, crowds, Move, move, ends, stores, full, wakes, forgets, loses, finishes, passes, applies}
use Rattle.machine.specs.Machine.{step, after_step, ended, Frame, State, stands_at, suits, chosen, Outcome, applications_of, no_goal, refusal, run_on}
use Rattle.machine.specs.Ledger.{IdleComesToRest, HasRested, goal_bound, waiting, IsReady}
use Rattle.machine.proofs.Lists.{first_some, choices-from}
use Rattle.machine.proofs.Accounts.{history_good}
use Rattle.machine.proofs.Labels.{chosen-parts, tally-facts}
use Rattle.machine.proofs.Spans.{span-apart, Span, placed-last, span-under, span-append}
use Rattle.machine.proofs.Places.{head-some}
use Rattle.machine.proofs.Parts.{head-mem}
use Rattle.machine.proofs.Counts.{tally-append}
use Rattle.rules.specs.Rules.{Rule}
use Rattle.rules.specs.Closed.{heads_of, head_count, Place, head}
use Rattle.stores.specs.Store.{Pair, fact, labels, facts, last_label, without}
use Rattle.machine.specs.Lists.{distinct, choices}
use Rattle.machine.specs.Fitting.{setting_of, ready}
use Rattle.facts.specs.declared.fact_types.Fact.{Fact}
use Rattle.machine.specs.declared.goal_types.Goal.{Goal}
use Rattle.machine.specs.declared.goal_types.Goal.TheVariants.{Wait, Look, Try}

-- no rule is ready on a list of facts
abbrev IdleOn : Frame → List Fact → Type 0
IdleOn fr l = (r : Rule) → Memᴰ r fr.rules → IsReady fr.system r l → ⊥

-- a choice that suits makes a rule ready
pub chosen-ready : (fr : Frame) (ps : List Pair) (ws : List Fact) → IdleOn fr (facts ps ++ ws) → (n : ℕ) → Span 0 ps n → (l i : ℕ) (h : Place) → head fr.rules i ≡ Some h →
    (c : List Pair) → chosen fr.system h.rule h.place l ps ≡ Some c → ⊥
chosen-ready fr ps ws idle n span l i h eh c ec =
    let s = fr.system in
    let r = h.rule in
    let f = first_some (suits s r h.place l) c (choices (heads_of r) ps) ec in
    let w = choices-from (heads_of r) ps c f.0 in
    let t = (and_parts (stands_at h.place l c) (distinct (labels c) && ready s r (facts c)) f.1).1 in
    let u = and_parts (distinct (labels c)) (ready s r (facts c)) t in
    let rest = without (labels c) ps in
    let q = chosen-parts ps c (λ m. (span-apart m 0 ps n span).0) w u.0 in
    idle r (head-mem fr.rules i h eh)
    (record {
      chosen = facts c;
      others = facts rest ++ ws;
      parts = λ p.
          let t : Pair → Bool = λ x. p (fact x) in
          omega (arith, tally-append p (facts ps) ws, tally-facts p ps, q t, tally-append t c rest, tally-facts p c, tally-facts p rest, tally-append p (facts c) (facts rest ++ ws), tally-append p (facts rest) ws);
      setting = setting_of r (facts c);
      suits = u.1;
    })

-- how many steps a goal takes at most
abbrev pub cost : ℕ → Goal → ℕ
cost k (Wait f) = k + 2
cost k (Look l) = k + 2
cost k (Try l i) = suc (suc k - i)

abbrev pub costs : ℕ → List Goal → ℕ
costs k [] = 0
costs k (g ∷ gs) = cost k g + costs k gs

cost_most : (k : ℕ) (g : Goal) → cost k g ≤ k + 2
cost_most k (Wait f) = omega arith
cost_most k (Look l) = omega arith
cost_most k (Try l i) = omega arith

pub costs_most : (k : ℕ) (gs : List Goal) → costs k gs ≤ length gs * (k + 2)
costs_most k [] = omega arith
costs_most k (g ∷ gs) = omega (arith, cost_most k g, costs_most k gs, suc-mul (length gs) (k + 2))

cost-some : (k : ℕ) (g : Goal) → 1 ≤ cost k g
cost-some k (Wait f) = omega arith
cost-some k (Look l) = omega arith
cost-some k (Try l i) = omega arith

costs-zero : (k : ℕ) (gs : List Goal) → costs k gs ≤ 0 → gs ≡ []
costs-zero k [] h = refl
costs-zero k (g ∷ gs) h = absurd (omega (arith, cost-some k g))

push-facts : (ps : List Pair) (x : Pair) (ws : List Fact) → facts (ps ++ (x ∷ [])) ++ ws ≡ facts ps ++ (fact x ∷ ws)
push-facts [] x ws = refl
push-facts (p ∷ ps) x ws = ap (λ l. fact p ∷ l) (push-facts ps x ws)

-- no rule is ready, and what waits has room
pub record Calm (fr : Frame) (ps : List Pair) (n : ℕ) (gs : List Goal) : Type 0 where
  pub idle : IdleOn fr (facts ps ++ waiting gs)
  pub room : length ps + length (waiting gs) ≤ fr.capacity
  pub labels : n + length (waiting gs) ≤ suc last_label
  pub span : Span 0 ps n

abbrev pub CalmState : Frame → State → Type 0
CalmState fr st = Calm fr st.pairs st.next st.goals

-- such a step is neither Refused nor an application
pub record Calmly (fr : Frame) (ns : List ℕ) (gs : List Goal) (o : Outcome) : Type 0 where
  pub goes : refusal o.answer ≡ None
  pub none : applications_of o.answer ≡ 0
  pub calm : CalmState fr o.state
  pub same : o.list ≡ ns
  pub falls : costs (head_count fr.rules) o.state.goals < costs (head_count fr.rules) gs

not-both : (o : Option StepFault) (i : StepFault) → o ≡ None → o ≡ Some i → ⊥
not-both o i e q = some-none i (sym q ∙ e)

module _ (fr : Frame) where
  calm-move : (st : State) (ns : List ℕ) {gs : List Goal} {o : Outcome} → Move fr st ns gs o → Calm fr st.pairs st.next gs → (gs ≡ [] → ⊥) → Calmly fr ns gs o
  calm-move st ns ends k ne = absurd (ne refl)
  calm-move st ns (stores {f = f} {gs = gs} a) k ne =
      let N : List Pair = (st.next, f) ∷ [] in
      let last = placed-last st.next f st.pairs (span-under 0 st.pairs st.next k.span) in
      record {
        goes = refl;
        none = refl;
        same = refl;
        calm = subst (λ (ps : List Pair). Calm fr ps (suc st.next) (Try st.next 1 ∷ gs)) (sym last) (record {
          idle = subst (IdleOn fr) (sym (push-facts st.pairs (st.next, f) (waiting gs))) k.idle;
          room = omega (arith, length-append st.pairs N, k.room);
          labels = omega (arith, k.labels);
          span = span-append 0 st.pairs st.next N (suc st.next) k.span (omega arith, omega arith);
        });
        falls = omega arith;
      }
  calm-move st ns (full {gs = gs} n a) k ne =
      absurd (some-none n (sym a ∙ fits_store_lem fr st 1 (omega (arith, k.room), omega (arith, k.labels))))
  calm-move st ns (wakes a) k ne = record { goes = refl; none = refl; same = refl; calm = record { idle = k.idle; room = k.room; labels = k.labels; span = k.span }; falls = omega arith }
  calm-move st ns (forgets a) k ne = record { goes = refl; none = refl; same = refl; calm = record { idle = k.idle; room = k.room; labels = k.labels; span = k.span }; falls = omega arith }
  calm-move st ns (loses a) k ne = record { goes = refl; none = refl; same = refl; calm = record { idle = k.idle; room = k.room; labels = k.labels; span = k.span }; falls = omega arith }
  calm-move st ns (finishes y a) k ne = record { goes = refl; none = refl; same = refl; calm = record { idle = k.idle; room = k.room; labels = k.labels; span = k.span }; falls = omega arith }
  calm-move st ns (passes {i = i} y h eh ec) k ne = record { goes = refl; none = refl; same = refl; calm = record { idle = k.idle; room = k.room; labels = k.labels; span = k.span }; falls = omega (arith, head-some 1 fr.rules (i - 1) h eh) }
  calm-move st ns (applies {l = l} {i = i} {gs = gs} y h eh c ec fs q z) k ne = absurd (chosen-ready fr st.pairs (waiting gs) k.idle st.next k.span l i h eh c ec)
  calm-move st ns (lacks {l = l} {i = i} {gs = gs} y h eh c ec q) k ne = absurd (chosen-ready fr st.pairs (waiting gs) k.idle st.next k.span l i h eh c ec)
  calm-move st ns (crowds {l = l} {i = i} {gs = gs} y h eh c ec fs q n z) k ne = absurd (chosen-ready fr st.pairs (waiting gs) k.idle st.next k.span l i h eh c ec)

  calm-step : (ns : List ℕ) (st : State) → fr.capacity ≤ length ns → CalmState fr st → (st.goals ≡ [] → ⊥) → Calmly fr ns st.goals (step fr ns st)
  calm-step ns st wide k ne =
      step_case fr ns st (Calmly fr ns st.goals) (λ e. absurd (omega (arith, e, wide))) (λ e. calm-move st ns (move fr st ns st.goals) k ne)

  pub calm_run : (n : ℕ) (ns : List ℕ) (st : State) → fr.capacity ≤ length ns → CalmState fr st → costs (head_count fr.rules) st.goals ≤ n →
      HasRested ns (costs (head_count fr.rules) st.goals) (run_on fr n ns st)
  calm_run zero ns st wide k h =
      record {
        end = cond-true (no_goal st) ends.Quiet ends.Spent (eq-eqb (length st.goals) 0 (ap length (costs-zero (head_count fr.rules) st.goals h)));
        applications = refl;
        steps = omega arith;
        list = refl;
      }
  calm_run (suc n) ns st wide k h =
      let o = step fr ns st in
      let most = costs (head_count fr.rules) st.goals in
      let below = calm_run n o.list o.state in
      cond_both (no_goal st) (ended ends.Quiet ns st) _ (HasRested ns most) (λ e. record { end = refl; applications = refl; steps = omega arith; list = refl })
      (λ e.
      let c = calm-step ns st wide k (λ q. eqb-false (length st.goals) 0 e (ap length q)) in
      option_both (refusal o.answer) (HasRested ns most) (after_step o.answer (run_on fr n o.list o.state)) (λ k. ended (ends.Stopped k) ns st)
      (λ q.
      let b = below (omega (arith, ap length c.same, wide)) c.calm (omega (arith, c.falls, h)) in
      record { end = b.end; applications = omega (arith, c.none, b.applications); steps = omega (arith, b.steps, c.falls); list = b.list ∙ c.same })
      (λ i q. absurd (not-both (refusal o.answer) i c.goes q)))

pub idle-rests : IdleComesToRest
idle-rests fr h st k idle room ns budget hr hb =
    let c = costs_most (head_count fr.rules) st.goals in
    cond_both (ltb (length ns) fr.capacity) (ended (ends.Stopped fault.List) ns st) (run_on fr budget ns st) (HasRested ns (goal_bound fr st))
    (λ e. absurd (omega (arith, ltb-true (length ns) fr.capacity e)))
    (λ e.
    let b = calm_run fr budget ns st hr
    (record {
      idle = idle;
      room = omega (arith, room.facts, length-append (facts st.pairs) (waiting st.goals), length-map st.pairs fact);
      labels = room.labels;
      span = (history_good fr h st k).4.span;
    })
    (omega (arith, hb, c)) in
    record { end = b.end; applications = b.applications; steps = omega (arith, b.steps, c); list = b.list })
