-- An application is weighed as the machine weighs it.
use Rattle.std.proofs.Common.{◌≡◌, ℕ, zero, suc, ◌+◌, ◌-◌, ◌<◌, ◌≤◌, min, Bool, true, false, cond, not, ◌&&◌, if◌then◌else◌, ltb, List, [], ◌∷◌, map, flat_map, length, get_or, take, drop, Some, None, Option, sym, refl, ap, subst, ◌∙◌, inl, inr, arith}
use Rattle.std.specs.Prelude.{option_map}
use Rattle.std.proofs.lemmas.Bool.{cases_lt, cond-true, lt-ltb}
use Rattle.std.proofs.lemmas.List.{length-map, take_all, take_min}
use lib.ListN.{get_or-map}
use mathlib.Core.List.{Memᴰ}
use Rattle.facts.specs.System.{System}
use Rattle.facts.specs.declared.fact_types.Fact.{Fact}
use Rattle.rules.specs.declared.rule_types.RuleRecord.{RuleRecord}
use Rattle.rules.specs.declared.rule_types.HeadPlace.{HeadPlace}
use Rattle.rules.specs.Rules.{Rule, rule_seen, all}
use Rattle.rules.specs.Closed.{heads_of, Place, stand, every_word}
use Rattle.rules.proofs.Records.{alls-count}
use Rattle.lists.specs.Held.{held}
use Rattle.lists.proofs.Held.{held-count}
use Rattle.stores.specs.Lists.{has}
use Rattle.stores.specs.Store.{Pair, label, fact, labels, facts}
use Rattle.stores.specs.Piles.{Pile, Owed}
use Rattle.stores.proofs.Pairs.{length-kept}
use Rattle.machine.specs.declared.answer_types.Shortage.{Shortage}
use Rattle.machine.specs.declared.answer_types.Shortage.TheVariants.{Goals}
use Rattle.machine.specs.declared.goal_types.Goal.{Goal}
use Rattle.machine.specs.Faults.{short_step}
use Rattle.machine.specs.Fitting.{setting_of, body}
use Rattle.machine.specs.Machine.{Frame, State, chosen, taken_of, gone_of, given_of, seen, shortage, most_goals}
use Rattle.machine.proofs.Labels.{Apart}
use Rattle.machine.proofs.Rooms.{some-none, room_case}
use Rattle.machine.proofs.Stands.{RuleStands, rule-stands}
use Rattle.engine.specs.declared.body_type.Body.{Body}
use Rattle.engine.specs.declared.search.Choice.{Choice}
use Rattle.engine.specs.Applying.{rule_at, place_at, choice_in, facts_in, left_in, fault_of, IsReady}
use Rattle.engine.specs.Bringing.{has_kind}
use Rattle.engine.specs.Goals.{below}
use Rattle.engine.specs.Letters.{setting_in}
use Rattle.engine.specs.Room.{short_of_store, short_of_room}
use Rattle.engine.specs.Searching.{IsFound}
use Rattle.engine.specs.Taking.{all_taken, Taken, Took, gone_number, HasFacts, IsBody}
use Rattle.engine.proofs.ApplyBodies.{body-kinds, body-few}
use Rattle.engine.proofs.ApplyGone.{drops_of}
use Rattle.engine.proofs.ApplyLabels.{Chosen, chosen-is, gone-length, took-within, active-goes, owed-apart}
use Rattle.engine.proofs.Takings.{takes_at, all_taken-at, gone_number-gone, length-took, owed-length}

pub at-mem : {X : Type 0} (xs : List X) (i : ℕ) (d : X) → i < length xs → Memᴰ (get_or xs i d) xs
at-mem [] i d h = absurd (omega arith)
at-mem (x ∷ xs) zero d h = Memᴰ.head refl
at-mem (x ∷ xs) (suc i) d h = Memᴰ.tail (at-mem xs i d (omega arith))

-- what a search found --------------------------------------------------------------------------------------------------

pub record Found (r : Rule) (o : Option (List Pair)) (x : Choice) : Type 0 where
  pub chosen : o ≡ Some (choice_in o)
  pub labels : held x.labels ≡ map label (choice_in o)
  pub letters : setting_in x.letters ≡ setting_of r (map fact (choice_in o))

pub found-is : (r : Rule) (o : Option (List Pair)) (x : Choice) → IsFound r o (Some x) → Found r o x
found-is r None x h = absurd h
found-is r (Some c) x h = record { chosen = refl; labels = h.0; letters = h.1 }

-- a choice that was found has a label for each single head
pub whole-chosen : (s : System) (r : Rule) (place l : ℕ) (ps : List Pair) (x : Choice) → IsFound r (chosen s r place l ps) (Some x) → length (held x.labels) ≡ heads_of r
whole-chosen s r place l ps x h =
    let o = chosen s r place l ps in
    let f = found-is r o x h in
    let k = chosen-is s r place l ps (choice_in o) f.chosen in
    omega (arith, ap length f.labels, length-map (choice_in o) label, k.many)

-- bodies ---------------------------------------------------------------------------------------------------------------

none_some : {X : Type 0} (x : X) → None ≡ Some x → ⊥
none_some x e = cc

pub some-body : (o : Option (List Fact)) (b : Body) → IsBody o b (Some tt) → (fs : List Fact) × (o ≡ Some fs) × HasFacts fs b
some-body None b h = absurd (none_some tt (sym h))
some-body (Some fs) b h = (fs, refl, h.1)

-- where they are at most 512, a body has all its facts
all-kept : (fs : List Fact) (b : Body) → HasFacts fs b → length fs ≤ 512 → facts_in b ≡ fs
all-kept fs b h k = h.facts ∙ take_all 512 fs k

first-kept : (fs : List Fact) (b : Body) → HasFacts fs b → length fs ≤ 512 → take (min b.count 512) b.facts ≡ fs
first-kept fs b h k = ap (λ n. take (min b.count n) b.facts) (sym h.wide) ∙ (take_min b.count b.facts ∙ all-kept fs b h k)

-- whether there is room is decided by the facts that are kept
room_same : (goals capacity pairs next : ℕ) (rules : List Rule) (fs : List Fact) (b : Body) → HasFacts fs b →
    short_of_room goals b.count capacity pairs next (length (seen rules (take (min b.count 512) b.facts))) ≡ short_of_room goals (length fs) capacity pairs next (length (seen rules fs))
room_same goals capacity pairs next rules fs b h =
    elim (cases_lt most_goals (goals + length fs)) [
      | inl k ↦
          cond-true (ltb most_goals (goals + b.count)) (Some Goals) (short_of_store capacity pairs next (length (seen rules (take (min b.count 512) b.facts)))) (lt-ltb most_goals (goals + b.count) (omega (arith, h.count)))
          ∙ sym (cond-true (ltb most_goals (goals + length fs)) (Some Goals) (short_of_store capacity pairs next (length (seen rules fs))) (lt-ltb most_goals (goals + length fs) k))
      | inr k ↦ λ i. short_of_room goals (h.count i) capacity pairs next (length (seen rules (first-kept fs b h (omega arith) i)))
    ]

goals_left : (goes : Bool) (gs : List Goal) → 1 ≤ length gs → length gs - (if goes then 1 else 0) ≡ length (cond goes (below gs) gs)
goals_left true [] h = absurd (omega arith)
goals_left true (g ∷ gs) h = omega arith
goals_left false gs h = omega arith

-- an application ---------------------------------------------------------------------------------------------------------

-- what is known where an application is weighed
pub record Weighing (fr : Frame) (st : State) (h : Place) (l : ℕ) (c : List Pair) (m : Pile) (o : RuleRecord) (x : Choice) : Type 0 where
  pub owed : Owed m
  pub pairs : m.pairs ≡ st.pairs
  pub means : rule_seen o ≡ h.rule
  pub chosen : Chosen fr.system h.rule h.place l st.pairs c
  pub placed : h.place < heads_of h.rule
  pub found : held x.labels ≡ labels c
  pub letters : setting_in x.letters ≡ setting_of h.rule (facts c)

pub weighing_is : (s : System) (rules : List Rule) (next : ℕ) (goals : List Goal) (p : HeadPlace) (l : ℕ) (m : Pile) (o : RuleRecord) (x : Choice) →
    rule_seen o ≡ rule_at rules p → Owed m → p.place < heads_of (rule_at rules p) → IsFound (rule_at rules p) (chosen s (rule_at rules p) p.place l m.pairs) (Some x) →
    Weighing (record { system = s; rules = rules; capacity = m.capacity }) (record { pairs = m.pairs; next = next; goals = goals }) (place_at rules p) l
    (choice_in (chosen s (rule_at rules p) p.place l m.pairs)) m o x
weighing_is s rules next goals p l m o x r owed placed h =
    let f = found-is (rule_at rules p) (chosen s (rule_at rules p) p.place l m.pairs) x h in
    record {
      owed = owed;
      pairs = refl;
      means = r;
      chosen = chosen-is s (rule_at rules p) p.place l m.pairs (choice_in (chosen s (rule_at rules p) p.place l m.pairs)) f.chosen;
      placed = placed;
      found = f.labels;
      letters = f.letters;
    }

module _ {fr : Frame} {st : State} {h : Place} {l : ℕ} {c : List Pair} {m : Pile} {o : RuleRecord} {x : Choice} (w : Weighing fr st h l c m o x) where
  apart : Apart st.pairs
  apart = subst Apart w.pairs (owed-apart m w.owed)

  few-pairs : length st.pairs ≤ 1024
  few-pairs = omega (arith, owed-length m w.owed, ap length w.pairs)

  alls : length h.rule.alls ≤ 2
  alls = omega (arith, o.alls.few, alls-count o, ap (λ (r : Rule). length r.alls) w.means)

  pub same-taken : all_taken fr.system (setting_in x.letters) (rule_seen o) (held x.labels) st.pairs ≡ taken_of fr.system h.rule st.pairs c
  same-taken = λ i. all_taken fr.system (w.letters i) (w.means i) (w.found i) st.pairs

  pub same-given : body fr.system (setting_in x.letters) (rule_seen o) (map facts (all_taken fr.system (setting_in x.letters) (rule_seen o) (held x.labels) st.pairs)) ≡ given_of fr.system h.rule st.pairs c
  same-given = λ i. body fr.system (w.letters i) (w.means i) (map facts (same-taken i))

  pub took-is : (t : List Taken) → Took (all_taken fr.system (setting_in x.letters) (rule_seen o) (held x.labels) st.pairs) t → Took (taken_of fr.system h.rule st.pairs c) t
  took-is t a = subst (λ ts. Took ts t) same-taken a

  pub given-body : (b : Body) (a : Option (Unit {0})) → a ≡ Some tt → IsBody (body fr.system (setting_in x.letters) (rule_seen o) (map facts (all_taken fr.system (setting_in x.letters) (rule_seen o) (held x.labels) st.pairs))) b a →
      (fs : List Fact) × (given_of fr.system h.rule st.pairs c ≡ Some fs) × HasFacts fs b
  given-body b a e k =
      some-body (given_of fr.system h.rule st.pairs c) b (subst (λ (x : Option (Unit {0})). IsBody (given_of fr.system h.rule st.pairs c) b x) e (subst (λ y. IsBody y b a) same-given k))

  -- an all head takes no more than there is
  taken-few : (i : ℕ) → length (get_or (map facts (taken_of fr.system h.rule st.pairs c)) i []) ≤ 1024
  taken-few i =
      let ts = taken_of fr.system h.rule st.pairs c in
      let a = ap length (get_or-map facts ts i []) ∙ length-map (get_or ts i []) fact in
      let b = ap length (all_taken-at fr.system (setting_of h.rule (facts c)) h.rule (labels c) st.pairs i) in
      omega (arith, few-pairs, a, b, length-kept (λ p. not (has (label p) (labels c)) && takes_at fr.system (setting_of h.rule (facts c)) h.rule.alls i (fact p)) st.pairs)

  module _ (rules : List Rule) (stands : stand every_word rules ≡ true) (member : Memᴰ h.rule rules) where
    given-stands : RuleStands every_word h.rule
    given-stands = rule-stands every_word stands member

    pub given-few : (fs : List Fact) → given_of fr.system h.rule st.pairs c ≡ Some fs → length fs ≤ 4000
    given-few fs e =
        body-few fr.system (setting_of h.rule (facts c)) h.rule (map facts (taken_of fr.system h.rule st.pairs c)) given-stands
        (omega (arith, o.gives.few, held-count o.gives, ap (λ (r : Rule). length r.gives) w.means))
        (omega (arith, o.givealls.few, held-count o.givealls, ap (λ (r : Rule). length r.givealls) w.means))
        taken-few fs e

    given-kinds : (fs : List Fact) → given_of fr.system h.rule st.pairs c ≡ Some fs → all has_kind fs ≡ true
    given-kinds fs e = body-kinds fr.system (setting_of h.rule (facts c)) h.rule (map facts (taken_of fr.system h.rule st.pairs c)) given-stands fs e

  -- what leaves
  module _ (t : List Taken) (took : Took (taken_of fr.system h.rule st.pairs c) t) where
    pub removed-is : gone_number (rule_seen o) (map held t) ≡ length (gone_of fr.system h.rule st.pairs c)
    removed-is =
        ap (λ r. gone_number r (map held t)) w.means ∙ gone_number-gone fr.system h.rule st.pairs c t alls w.chosen.many took

    pub removed-few : gone_number (rule_seen o) (map held t) ≤ length st.pairs
    removed-few = omega (arith, removed-is, gone-length fr.system h.rule h.place l st.pairs c apart w.chosen)

    pub used-within : heads_of h.rule + length (flat_map held t) ≤ length st.pairs
    used-within = omega (arith, length-took t (taken_of fr.system h.rule st.pairs c) took, took-within fr.system h.rule h.place l st.pairs c apart w.chosen alls)

    pub goes-is : has l (drop o.keep_count (held x.labels)) ≡ has l (labels (gone_of fr.system h.rule st.pairs c))
    goes-is =
        ap (has l) (drops_of o (held x.labels) ∙ (λ i. drop (length (w.means i).keeps) (w.found i)))
        ∙ sym (active-goes fr.system h.rule h.place l st.pairs c apart w.chosen w.placed)

    -- whether there is room
    module _ (removed : ℕ) (goes : Bool) (b : Body) (fs : List Fact) (gone : removed ≡ gone_number (rule_seen o) (map held t))
        (top : goes ≡ has l (drop o.keep_count (held x.labels))) (some_goal : 1 ≤ length st.goals) (has' : HasFacts fs b)
        (given : given_of fr.system h.rule st.pairs c ≡ Some fs) where
      left : State
      left = left_in fr.system h l st c

      short : Option Shortage
      short = short_of_room (length st.goals - (if goes then 1 else 0)) b.count fr.capacity (length st.pairs - removed) st.next (length (seen fr.rules (take (min b.count 512) b.facts)))

      short-is : short ≡ shortage fr fs left
      unfolding left short
      short-is =
          let g : length st.goals - (if goes then 1 else 0) ≡ length left.goals =
          goals_left goes st.goals some_goal ∙ ap (λ a. length (cond a (below st.goals) st.goals)) (top ∙ goes-is) in
          let p : length st.pairs - removed ≡ length left.pairs = omega (arith, gone, removed-is, gone-length fr.system h.rule h.place l st.pairs c apart w.chosen) in
          room_same (length st.goals - (if goes then 1 else 0)) fr.capacity (length st.pairs - removed) st.next fr.rules fs b has'
          ∙ (λ i. short_of_room (g i) (length fs) fr.capacity (p i) st.next (length (seen fr.rules fs)))

      pub refused_room : (e : Shortage) → Some e ≡ short_of_room (length st.goals - (if goes then 1 else 0)) b.count fr.capacity (length st.pairs - removed) st.next (length (seen fr.rules (take (min b.count 512) b.facts))) →
          fault_of fr (left_in fr.system h l st c) (given_of fr.system h.rule st.pairs c) ≡ Some (short_step e)
      unfolding left short
      refused_room e q =
          ap (fault_of fr (left_in fr.system h l st c)) given ∙ ap (option_map short_step) (sym short-is ∙ sym q)

      module _ (stands : stand every_word fr.rules ≡ true) (member : Memᴰ h.rule fr.rules) where
        pub ready : None ≡ short_of_room (length st.goals - (if goes then 1 else 0)) b.count fr.capacity (length st.pairs - removed) st.next (length (seen fr.rules (take (min b.count 512) b.facts))) →
            IsReady fr h l st c t b (record { removed = removed; goes = goes })
        unfolding left short
        ready q =
            let free : shortage fr fs (left_in fr.system h l st c) ≡ None = sym short-is ∙ sym q in
            let few : length fs ≤ 512 = elim (room_case fr (left_in fr.system h l st c) fs) [
              | inl r ↦ absurd (some-none Goals (sym r.0 ∙ free))
              | inr r ↦ omega (arith, r.1)
            ] in
            let same : facts_in b ≡ fs = all-kept fs b has' few in
            record {
              took = took;
              within = used-within;
              given = given ∙ ap Some (sym same);
              added = has'.count ∙ ap length (sym same);
              kinds = ap (all has_kind) same ∙ given-kinds fr.rules stands member fs given;
              room = ap (λ gs. shortage fr gs (left_in fr.system h l st c)) same ∙ free;
              removed = gone ∙ removed-is;
              few = omega (arith, gone, removed-few, few-pairs);
              alls = alls;
              goes = top ∙ goes-is;
            }
