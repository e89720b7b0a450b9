-- What an application comes to, refused or done, is what the machine makes of it.
use Rattle.std.proofs.Common.{◌≡◌, ℕ, cond, List, [], ◌∷◌, ◌++◌, map, flat_map, length, get_or, drop, Some, None, Option, sym, refl, ap, subst, ◌∙◌, arith}
use Rattle.std.specs.Prelude.{option_map}
use Rattle.std.proofs.lemmas.List.{drop-map}
use Rattle.facts.specs.System.{System}
use Rattle.facts.specs.declared.fact_types.Fact.{Fact}
use Rattle.rules.specs.Closed.{Place}
use Rattle.stores.specs.Lists.{has}
use Rattle.stores.specs.Store.{Pair, label, labels, facts, without}
use Rattle.machine.specs.declared.answer_types.Answer.TheVariants.{Applied, Refused}
use Rattle.machine.specs.declared.answer_types.Shortage.{Shortage}
use Rattle.machine.specs.declared.answer_types.StepFault.{StepFault}
use Rattle.machine.specs.declared.answer_types.StepFault.TheVariants as fault
use Rattle.machine.specs.declared.goal_types.Goal.{Goal}
use Rattle.machine.specs.declared.goal_types.Goal.TheVariants.{Try}
use Rattle.machine.specs.Faults.{short_step}
use Rattle.machine.specs.Fitting.{setting_of}
use Rattle.machine.specs.Machine.{Frame, State, Outcome, taken_of, gone_of, gone_alls, given_of, left_of, shortage, account, bring, listed, apply_room, apply_body, try_choice}
use Rattle.machine.proofs.Parts.{map-append}
use Rattle.machine.proofs.Rooms.{some-none, some-some}
use Rattle.engine.specs.declared.applying.Weighed.{Weighed}
use Rattle.engine.specs.declared.body_type.Body.{Body}
use Rattle.engine.specs.Taking.{Taken}
use Rattle.lists.specs.Held.{held}
use Rattle.engine.specs.declared.search.Choice.{Choice}
use Rattle.engine.specs.Applying.{gone_labels, used_labels, leaving_labels, facts_in, left_by, left_in, fault_of, IsReady}
use Rattle.engine.specs.Goals.{top_of, below}
use Rattle.engine.specs.Jobs.{IsOutcome}
use Rattle.engine.proofs.Outcomes.{top_is}
use Rattle.engine.proofs.Takings.{together-took, gone-took, length-taken_by}

-- what is left where the top goal tries the active label
left-same : (s : System) (h : Place) (l i : ℕ) (st : State) (c : List Pair) → top_of st.goals ≡ Some (Try l i) → left_in s h l st c ≡ left_of s h l i (below st.goals) st c
left-same s h l i st c e =
    let gone = labels (gone_of s h.rule st.pairs c) in
    ap (λ gs. record { pairs = without gone st.pairs; next = st.next; goals = cond (has l gone) (below st.goals) gs }) (top_is st.goals (Try l i) e)

-- refused --------------------------------------------------------------------------------------------------------------

module _ (fr : Frame) (h : Place) (l i : ℕ) (gs : List Goal) (st : State) (ns : List ℕ) (c : List Pair) where
  room_refused : (fs : List Fact) (q : Option Shortage) (e : StepFault) → option_map short_step q ≡ Some e →
      IsOutcome (apply_room fr st ns (left_of fr.system h l i gs st c) (account fr.system h l st.pairs c fs) fs q) st (Refused e) ns
  room_refused fs None e k = absurd (some-none e (sym k))
  room_refused fs (Some r) e k = record { state = refl; answer = ap Refused (sym (some-some (short_step r) e k)); list = refl }

  body-refused : (o : Option (List Fact)) (e : StepFault) → fault_of fr (left_of fr.system h l i gs st c) o ≡ Some e → IsOutcome (apply_body fr h l i gs st ns c o) st (Refused e) ns
  body-refused None e k = record { state = refl; answer = ap Refused (sym (some-some fault.Body e k)); list = refl }
  body-refused (Some fs) e k = room_refused fs (shortage fr fs (left_of fr.system h l i gs st c)) e k

pub apply_refused : (fr : Frame) (h : Place) (l i : ℕ) (st : State) (ns : List ℕ) (c : List Pair) (o : Option (List Pair)) (e : StepFault) →
    top_of st.goals ≡ Some (Try l i) → o ≡ Some c → fault_of fr (left_in fr.system h l st c) (given_of fr.system h.rule st.pairs c) ≡ Some e →
    IsOutcome (try_choice fr h l i (below st.goals) st ns o) st (Refused e) ns
apply_refused fr h l i st ns c o e t q k =
    let k' = ap (λ left. fault_of fr left (given_of fr.system h.rule st.pairs c)) (sym (left-same fr.system h l i st c t)) ∙ k in
    subst (λ p. IsOutcome (try_choice fr h l i (below st.goals) st ns p) st (Refused e) ns) (sym q)
    (body-refused fr h l i (below st.goals) st ns c (given_of fr.system h.rule st.pairs c) e k')

-- done -----------------------------------------------------------------------------------------------------------------

module _ (fr : Frame) (h : Place) (l : ℕ) (st : State) (c : List Pair) (tk : List Taken) (bd : Body) (w : Weighed) (x : Choice) (k : IsReady fr h l st c tk bd w) (found : held x.labels ≡ labels c) where
  taken : List (List Pair)
  taken = taken_of fr.system h.rule st.pairs c

  taken-long : length taken ≡ length h.rule.alls
  unfolding taken
  taken-long = length-taken_by fr.system (setting_of h.rule (facts c)) h.rule.alls (without (labels c) st.pairs)

  leaving : leaving_labels h.rule x tk ≡ labels (gone_of fr.system h.rule st.pairs c)
  unfolding taken
  leaving =
      let r = h.rule in
      ap (λ ls. gone_labels r ls (map held tk)) found
      ∙ ((λ i. drop-map label (length r.keeps) c i ++ gone-took r.alls taken tk taken-long k.alls k.took i)
      ∙ sym (map-append label (drop (length r.keeps) c) (gone_alls r.alls taken)))

  used : used_labels x tk ≡ labels c ++ flat_map labels (taken_of fr.system h.rule st.pairs c)
  unfolding taken
  used =
      λ i. found i ++ together-took tk taken (omega (arith, taken-long, k.alls)) k.took i

  pub left_carried : left_by (leaving_labels h.rule x tk) w.goes st ≡ left_in fr.system h l st c
  left_carried = λ i. left_by (leaving i) (k.goes i) st

  pub room_carried : shortage fr (facts_in bd) (left_by (leaving_labels h.rule x tk) w.goes st) ≡ None
  room_carried = ap (shortage fr (facts_in bd)) left_carried ∙ k.room

  module _ (i : ℕ) (ns : List ℕ) (first second : ℕ) (is_first : first ≡ length (get_or (taken_of fr.system h.rule st.pairs c) 0 [])) (is_second : second ≡ length (get_or (taken_of fr.system h.rule st.pairs c) 1 [])) (o : Option (List Pair)) (t : top_of st.goals ≡ Some (Try l i)) (q : o ≡ Some c) where
    fs : List Fact
    fs = facts_in bd

    left : State
    left = left_of fr.system h l i (below st.goals) st c

    done : Outcome
    done = record { state = bring fr.rules fs left; answer = Applied (account fr.system h l st.pairs c fs).answer; list = listed (account fr.system h l st.pairs c fs).labels ns }

    done-is : done ≡ try_choice fr h l i (below st.goals) st ns o
    unfolding fs left done
    done-is =
        let free : shortage fr fs left ≡ None = ap (shortage fr fs) (sym (left-same fr.system h l i st c t)) ∙ k.room in
        sym
        (ap (try_choice fr h l i (below st.goals) st ns) q
        ∙ (ap (apply_body fr h l i (below st.goals) st ns c) k.given
        ∙ ap (apply_room fr st ns left (account fr.system h l st.pairs c fs) fs) free))

    pub apply_done : (st' : State) (ns' : List ℕ) (n : ℕ) → n ≡ h.number →
        st' ≡ bring fr.rules (facts_in bd) (left_by (leaving_labels h.rule x tk) w.goes st) → ns' ≡ listed (used_labels x tk) ns →
        IsOutcome (try_choice fr h l i (below st.goals) st ns o) st'
        (Applied (record { rule = n; active = l; took = first ∷ (second ∷ []); removed = w.removed; added = bd.count })) ns'
    unfolding fs left done
    apply_done st' ns' n a b d =
        subst
        (λ z. IsOutcome z st' (Applied (record { rule = n; active = l; took = first ∷ (second ∷ []); removed = w.removed; added = bd.count })) ns')
        done-is
        (record {
          state = b ∙ ap (bring fr.rules fs) (left_carried ∙ left-same fr.system h l i st c t);
          answer = λ j. Applied (record { rule = a j; active = l; took = is_first j ∷ (is_second j ∷ []); removed = k.removed j; added = k.added j });
          list = d ∙ ap (λ ls. listed ls ns) used;
        })
