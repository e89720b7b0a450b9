-- The steps of the search as its functions take them.
use Rattle.std.proofs.Common.{◌≡◌, ℕ, ◌<◌, ◌≤◌, Bool, true, false, cond, List, [], ◌∷◌, ◌++◌, length, get_or, Some, None, Option, sym, refl, ap, subst, ◌∙◌, arith}
use Rattle.std.specs.Bool.{then_some}
use Rattle.facts.specs.System.{System}
use Rattle.facts.specs.declared.fact_types.Fact.{Fact}
use Rattle.rules.specs.declared.rule_types.Pattern.{Pattern}
use Rattle.rules.specs.declared.rule_types.RuleRecord.{RuleRecord}
use Rattle.lists.specs.declared.fixed_list_type.FixedList.{FixedList}
use Rattle.lists.specs.Held.{held}
use Rattle.lists.proofs.Held.{held-count}
use Rattle.std.specs.List.{slice_get}
use Rattle.std.proofs.lemmas.Option.{slice_get_within, get_or_from_slice_get}
use Rattle.rules.specs.Rules.{Rule, rule_seen, all}
use Rattle.rules.specs.Closed.{heads_of, accepted, rule_verdict, every_word}
use Rattle.rules.proofs.Records.{singles-seen, singles-count}
use Rattle.stores.specs.Store.{Pair, read, next_that}
use Rattle.engine.specs.declared.search.Choice.{Choice}
use Rattle.machine.specs.Fitting.{holds}
use Rattle.engine.specs.Letters.{Letters, unbound, setting_in, bind_fact}
use Rattle.machine.specs.Machine.{chosen}
use Rattle.engine.specs.Searching.{no_head, head_at, pairs_at, or_next, found_from, found_above, extended, IsExtended, IsFound, IsPartial, is_candidate, candidates_stand}
use Rattle.engine.proofs.SearchOrder.{Rising}
use Rattle.engine.proofs.SearchPartial.{labels-at, end-found, end-setting, placed_partial, placed-found, above-start, above-end, next-larger}
use Rattle.engine.proofs.SearchSteps.{refused, taken, taken_partial, start-found, start_partial, unbound-chosen, lonely_chosen}

-- what a longer choice is
pub extended-parts : (o : Option Letters) (old : Choice) (n : ℕ) (x : Choice) → IsExtended o old n (Some x) → (o ≡ Some x.letters) × (held x.labels ≡ held old.labels ++ (n ∷ []))
extended-parts None old n x h = elim h [ ]
extended-parts (Some m) old n x h = (ap Some (sym h.0), h.1)

extended-not : (o : Option Letters) (old : Choice) (n : ℕ) → IsExtended o old n None → o ≡ None
extended-not None old n h = refl
extended-not (Some m) old n h = elim h [ ]

or-found : (r : Rule) (o u v : Option (List Pair)) (x : Choice) → o ≡ or_next u v → IsFound r u (Some x) → IsFound r o (Some x)
or-found r o None v x e h = elim h [ ]
or-found r o (Some c) v x e h = subst (λ (k : Option (List Pair)). IsFound r k (Some x)) (sym e) h

or-passed : (r : Rule) (o u v : Option (List Pair)) → o ≡ or_next u v → IsFound r u None → o ≡ v
or-passed r o None v e h = e
or-passed r o (Some c) v e h = elim h [ ]

module _ (s : System) (rr : RuleRecord) (place active : ℕ) (ps : List Pair) (choice : Choice) (w : IsPartial ps (rule_seen rr) place active (held choice.labels) choice.letters) (at : ℕ) (counted : at ≡ length (held choice.labels)) where
  abbrev r : Rule
  r = rule_seen rr

  abbrev begins : List ℕ
  begins = held choice.labels

  abbrev found_of : List ℕ → Option (List Pair)
  found_of = found_from s (rule_seen rr) place active ps

  abbrev found : Option (List Pair)
  found = found_from s (rule_seen rr) place active ps (held choice.labels)

  abbrev found_over : ℕ → Option (List Pair)
  found_over = found_above s (rule_seen rr) place active ps (held choice.labels)

  count : length begins ≡ at
  count = sym counted

  heads : heads_of r ≡ rr.singles.count
  heads = singles-count rr

  -- the end of the heads
  end-some : rr.singles.count ≤ at → true ≡ all (holds s (setting_in choice.letters) []) r.whens → IsFound r found (Some choice)
  end-some h e =
      let q : length begins ≡ heads_of r = omega (arith, count, heads, w.short) in
      let f = end-found s r place active ps begins choice.letters w q ∙ ap (λ (b : Bool). cond b (Some (pairs_at ps begins)) None) (sym e) in
      subst (λ (o : Option (List Pair)). IsFound r o (Some choice)) (sym f)
      (sym (labels-at ps begins), end-setting s r place active ps begins choice.letters w q)

  end-none : rr.singles.count ≤ at → false ≡ all (holds s (setting_in choice.letters) []) r.whens → IsFound r found None
  end-none h e =
      let q : length begins ≡ heads_of r = omega (arith, count, heads, w.short) in
      let f = end-found s r place active ps begins choice.letters w q ∙ ap (λ (b : Bool). cond b (Some (pairs_at ps begins)) None) (sym e) in
      subst (λ (o : Option (List Pair)). IsFound r o None) (sym f) tt

  pub end-answer : rr.singles.count ≤ at → (b : Bool) → b ≡ all (holds s (setting_in choice.letters) []) r.whens → IsFound r found (then_some b choice)
  end-answer h true e = end-some h e
  end-answer h false e = end-none h e

  -- the place of the active label
  module _ (e : at ≡ place) (longer : FixedList ℕ 4) (one-more : held longer ≡ begins ++ (active ∷ [])) where
    pub place_partial : IsPartial ps r place active (held longer) choice.letters
    place_partial =
        subst (λ (ls : List ℕ). IsPartial ps r place active ls choice.letters) (sym one-more)
        (placed_partial s r place active ps begins choice.letters w (count ∙ e))

    pub place-found : Rising 0 ps → (x : Option Choice) → IsFound r (found_of (held longer)) x → IsFound r found x
    place-found rise x f =
        let k = placed-found s r place active ps begins choice.letters w (count ∙ e) rise ∙ ap found_of (sym one-more) in
        subst (λ (o : Option (List Pair)). IsFound r o x) (sym k) f

  -- another place
  module _ (head : Pattern) (there : slice_get (held rr.singles) at ≡ Some head) (rise : Rising 0 ps) where
    room : length begins < heads_of r
    room = omega (arith, count, heads, slice_get_within (held rr.singles) at head there, held-count rr.singles)

    pattern : head_at r (length begins) ≡ head
    pattern =
        ap (head_at r) count
        ∙ (ap (λ (hs : List Pattern). get_or hs at no_head) (singles-seen rr) ∙ get_or_from_slice_get (held rr.singles) at head no_head there)

    pub loop_start : found ≡ found_over 0
    loop_start = above-start s r place active ps begins choice.letters w room rise

    module _ (above : ℕ) (o : Option ℕ) (k : o ≡ next_that (is_candidate choice.letters head) above ps) where
      seen-next : next_that (is_candidate choice.letters (head_at r (length begins))) above ps ≡ o
      seen-next = ap (λ (p : Pattern). next_that (is_candidate choice.letters p) above ps) pattern ∙ sym k

      pub loop_end : o ≡ None → found ≡ found_over above → IsFound r found None
      loop_end e i =
          let f = i ∙ above-end s r place active ps begins choice.letters w room rise above (seen-next ∙ e) in
          subst (λ (o : Option (List Pair)). IsFound r o None) (sym f) tt

      module _ (n : ℕ) (e : o ≡ Some n) (other : at ≡ place → ⊥) where
        pub loop_larger : above < n
        loop_larger = next-larger s r place active ps begins choice.letters w room rise above n (seen-next ∙ e)

        apart : length begins ≡ place → ⊥
        apart q = other (sym count ∙ q)

        seen-extended : {y : Option Letters} → extended ps head active begins choice.letters n ≡ y → extended ps (head_at r (length begins)) active begins choice.letters n ≡ y
        seen-extended q = ap (λ (p : Pattern). extended ps p active begins choice.letters n) pattern ∙ q

        pub loop_refused : IsExtended (extended ps head active begins choice.letters n) choice n None →
            found ≡ found_over above → found ≡ found_over n
        loop_refused x i =
            i ∙ refused s r place active ps begins choice.letters w room rise apart above n (seen-next ∙ e)
            (seen-extended (extended-not (extended ps head active begins choice.letters n) choice n x))

        module _ (m : Choice) (x : IsExtended (extended ps head active begins choice.letters n) choice n (Some m)) where
          parts : (extended ps head active begins choice.letters n ≡ Some m.letters) × (held m.labels ≡ begins ++ (n ∷ []))
          parts = extended-parts (extended ps head active begins choice.letters n) choice n m x

          pub loop_partial : IsPartial ps r place active (held m.labels) m.letters
          loop_partial =
              subst (λ (ls : List ℕ). IsPartial ps r place active ls m.letters) (sym parts.1)
              (taken_partial s r place active ps begins choice.letters w room rise apart above n (seen-next ∙ e) m.letters (seen-extended parts.0))

          value : found ≡ found_over above →
              found ≡ or_next (found_of (held m.labels)) (found_over n)
          value i =
              i ∙ (taken s r place active ps begins choice.letters w room rise apart above n (seen-next ∙ e)
              ∙ ap (λ (ls : List ℕ). or_next (found_of ls) (found_over n)) (sym parts.1))

          pub loop_found : (y : Choice) → found ≡ found_over above →
              IsFound r (found_of (held m.labels)) (Some y) → IsFound r found (Some y)
          loop_found y i f =
              or-found r found (found_of (held m.labels))
              (found_over n) y (value i) f

          pub loop_passed : found ≡ found_over above →
              IsFound r (found_of (held m.labels)) None → found ≡ found_over n
          loop_passed i f =
              or-passed r found (found_of (held m.labels))
              (found_over n) (value i) f

-- the whole search ------------------------------------------------------------------------------------------------------

module _ (s : System) (rr : RuleRecord) (place active : ℕ) (ps : List Pair) (f : Fact) (heads : List Pattern) (same : heads ≡ held rr.singles) (h : place < rr.singles.count) (stands : accepted (rule_verdict every_word (rule_seen rr)) ≡ true) (a : read active ps ≡ Some f) (rise : Rising 0 ps) where
  abbrev rule : Rule
  rule = rule_seen rr

  place_in : place < heads_of rule
  place_in = omega (arith, singles-count rr)

  first-head : head_at rule place ≡ get_or heads place no_head
  first-head = ap (λ (hs : List Pattern). get_or hs place no_head) (singles-seen rr ∙ sym same)

  pub search_unbound : bind_fact unbound (get_or heads place no_head) f ≡ None → IsFound rule (chosen s rule place active ps) None
  search_unbound e =
      let k = unbound-chosen s rule place active ps rise place_in stands f a (ap (λ (p : Pattern). bind_fact unbound p f) first-head ∙ e) in
      subst (λ (o : Option (List Pair)). IsFound rule o None) (sym k) tt

  module _ (m : Letters) (e : bind_fact unbound (get_or heads place no_head) f ≡ Some m) where
    first-bound : bind_fact unbound (head_at rule place) f ≡ Some m
    first-bound = ap (λ (p : Pattern). bind_fact unbound p f) first-head ∙ e

    pub search_lonely : candidates_stand ps m place 0 (held rr.singles) ≡ false → IsFound rule (chosen s rule place active ps) None
    search_lonely c =
        let k = lonely_chosen s rule place active ps rise place_in stands f a m first-bound (ap (candidates_stand ps m place 0) (singles-seen rr) ∙ c) in
        subst (λ (o : Option (List Pair)). IsFound rule o None) (sym k) tt

    pub search_partial : IsPartial ps rule place active [] m
    search_partial = start_partial s rule place active ps rise place_in stands f a m first-bound

  pub search_found : (ls : List ℕ) → ls ≡ [] → (x : Option Choice) → IsFound rule (found_from s rule place active ps ls) x → IsFound rule (chosen s rule place active ps) x
  search_found ls e x k =
      subst (λ (o : Option (List Pair)). IsFound rule o x) (ap (found_from s rule place active ps) e ∙ start-found s rule place active ps rise) k
